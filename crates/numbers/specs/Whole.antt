-- A whole number as a float: exact up to 2 ^ 53, rounded once above it.
use Rattle.std.specs.Prelude.{ℕ, pos, Float}
use Rattle.std.specs.Float.{binary64}
use Rattle.std.specs.Float.Ieee.{of_int}

abbrev pub whole : ℕ → Float
whole n = of_int binary64 (pos n)
