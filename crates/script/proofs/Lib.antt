pub mod Reading
pub mod Cutting
pub mod Ending
