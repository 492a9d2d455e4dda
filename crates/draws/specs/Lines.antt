-- The starred lines about draws (document 01, "Lines to check"), as theorems about the definitions.
use Rattle.std.specs.Prelude.{◌≡◌, true, false, refl}
use Rattle.std.specs.Float.Ieee.{lt, mul, div, of_int}
use Rattle.numbers.specs.Digits.{decimal_value}
use Rattle.draws.specs.Rng.{new_rng_of, step_of, output_of, next_u64_of, fraction_of, next_f64_of}

pub record DrawLines : Type 0 where
  -- the first state and the first output of seed 1
  pub seed_one : next_u64_of (new_rng_of 1) ≡ (record { state = 0x2000001 }, 0x47E4CE4B896CDD1D)
  -- a loss of 0.25 lets that packet through: its draw is not below 25 over 100
  pub quarter_passes : lt (next_f64_of (new_rng_of 1)).1 (decimal_value 25 2) ≡ false
  -- a loss of 0.3 drops it: its draw is below 3 over 10
  pub three_tenths_drop : lt (next_f64_of (new_rng_of 1)).1 (decimal_value 3 1) ≡ true
  -- what stands in for seed 0
  pub seed_zero : new_rng_of 0 ≡ record { state = 0x9E3779B97F4A7C15 }

pub draw_lines : DrawLines
unfolding new_rng_of next_u64_of output_of step_of next_f64_of fraction_of lt mul div of_int decimal_value
draw_lines = record { seed_one = refl; quarter_passes = refl; three_tenths_drop = refl; seed_zero = refl }
