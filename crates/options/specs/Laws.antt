-- Empty (a text without bytes). Early (what is refused before the mode checks); on it stands Slips (what the mode checks say).
pub mod Empty
pub mod Early
pub mod Slips
