-- In order: Top (the top bits of an output), States (0 stays 0, and no generator made from a seed comes to it). That no draw is rounded stands in proofs/:
-- Scaled (a number of some bits, scaled), Fraction (the draws).
pub mod Top
pub mod States
