pub mod Turns
pub mod ReadsGathered
pub mod LastYielded
pub mod Hits
