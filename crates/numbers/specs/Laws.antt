-- In order: Both (two tests), Kinds (what a float is), NotNan (results that are numbers), Order, Extremes, Sign, Values (a value that fits is its own rounding), Whole
-- (comparison of whole numbers), Bounded (times and rates), Products, Magnitude, Signed and Transitive (either sign), Sums, Zero (-0 adds nothing), Credit
-- and Elapsed (the bucket's bound), Digits, Limits (counters and lengths), Checks (tests in a row), Nearest (a rounding is the nearest value that fits),
-- Decimals (a decimal's value), Counted (the counted front of a list).
pub mod Both
pub mod Kinds
pub mod NotNan
pub mod Order
pub mod Extremes
pub mod Sign
pub mod Values
pub mod Whole
pub mod Bounded
pub mod Products
pub mod Magnitude
pub mod Signed
pub mod Transitive
pub mod Sums
pub mod Zero
pub mod Credit
pub mod Elapsed
pub mod Digits
pub mod Limits
pub mod Checks
pub mod Nearest
pub mod Decimals
pub mod Counted
pub mod Results
pub mod Literals
