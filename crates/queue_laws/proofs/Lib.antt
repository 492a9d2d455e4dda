pub mod Agree
pub mod Runs
pub mod Refused
pub mod Theorem
