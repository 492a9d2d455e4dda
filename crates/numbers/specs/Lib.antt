-- Read first the definitions, in this order: Whole (a whole number as a float), Wrapping (the product modulo 2 ^ 64), Extremes (maximum and minimum),
-- Instant (refusal 21), Limits (what refusals judge by), Refusals (their numbers), Checks (the first of several tests that fails), Digits (digits as a
-- whole number, a decimal's value), Credit (the token bucket's arithmetic). Laws holds what is proved about them and about floats; a layer above cites it
-- and not the definitions' text.
pub mod Whole
pub mod Wrapping
pub mod Extremes
pub mod Instant
pub mod Limits
pub mod Refusals
pub mod Results
pub mod Checks
pub mod Digits
pub mod Credit
pub mod Laws
