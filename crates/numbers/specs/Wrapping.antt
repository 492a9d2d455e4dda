-- The product of 64-bit numbers that wraps at 2 ^ 64.
use Rattle.std.specs.Prelude.{ℕ, ◌*◌, ◌%◌, ◌^◌}

abbrev pub wrapping_mul_of : ℕ → ℕ → ℕ
wrapping_mul_of a b = (a * b) % 2 ^ 64
