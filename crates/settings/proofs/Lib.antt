pub mod JudgedEntries
pub mod EarlyEntries
