-- xorshift64* (Vigna, "An experimental exploration of Marsaglia's xorshift generators, scrambled"), with the shifts 12, 25, 27 and the
-- multiplier 0x2545F4914F6CDD1D, and document 01's draws, which are made of its outputs.
use Rattle.std.specs.Prelude.{ℕ, zero, suc, false, cond, pos, negsuc, ◌==◌, Float}
use Rattle.std.specs.Float.{fin, binary64}
use Rattle.std.specs.Float.Ieee.{mul}
use Rattle.numbers.specs.Whole.{whole}
use Rattle.numbers.specs.Wrapping.{wrapping_mul_of}
use Rattle.draws.specs.declared.rng.Rng.{Rng}
use Rattle.draws.specs.Shifts.{xor_shift_right, xor_shift_left, top_bits, golden_gamma}

-- a seed is the state, but for 0, which would stay 0 (document 01, "Draws")
unfoldable pub new_rng_of : ℕ → Rng
new_rng_of seed = record { state = cond (seed == 0) golden_gamma seed }

-- the next state
unfoldable pub step_of : ℕ → ℕ
step_of x = xor_shift_right (xor_shift_left (xor_shift_right x 12) 25) 27

-- the output of a state: the next one, scrambled by the multiplier
unfoldable pub output_of : ℕ → ℕ
output_of x = wrapping_mul_of (step_of x) 0x2545F4914F6CDD1D

unfoldable pub next_u64_of : Rng → Rng × ℕ
next_u64_of g = (record { state = step_of g.state }, output_of g.state)

-- 2 ^ -w
abbrev pub power_below : ℕ → Float
power_below zero = fin false 1 (pos 0)
power_below (suc k) = fin false 1 (negsuc k)

-- the top w bits of x times 2 ^ -w
unfoldable pub fraction_of : ℕ → ℕ → Float
fraction_of w x = mul binary64 (whole (top_bits w x)) (power_below w)

-- how many bits of an output a draw has
abbrev pub draw_width : ℕ
draw_width = 53

-- a draw from 0 up to 1 (document 01, "Draws")
unfoldable pub next_f64_of : Rng → Rng × Float
next_f64_of g = (record { state = step_of g.state }, fraction_of draw_width (output_of g.state))
