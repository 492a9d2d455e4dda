pub mod Scaled
pub mod Fraction
