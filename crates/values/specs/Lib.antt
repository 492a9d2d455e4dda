-- Read first the definitions, in this order: Bytes (parts of a list of bytes), Whole and Decimal (numbers, as document 01 has them under "Option text"),
-- Blanks (around a window's bounds), Parts (what colons part). Stages and Laws are for the proofs.
pub mod Bytes
pub mod Whole
pub mod Decimal
pub mod Blanks
pub mod Parts
pub mod Stages
pub mod Laws
