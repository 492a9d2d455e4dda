-- Read first the definitions, in this order: Shifts (the steps of both generators), Rng (xorshift64* and the draws), Mix (SplitMix64 and the seed of a
-- direction). Lines has document 01's starred lines about draws as theorems, and Laws, with proofs/Fraction.antt, what is proved of every draw.
pub mod Shifts
pub mod Rng
pub mod Mix
pub mod Lines
pub mod Laws
