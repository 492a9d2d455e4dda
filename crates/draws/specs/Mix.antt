-- SplitMix64 (Steele, Lea, Flood, "Fast splittable pseudorandom number generators"), and the seed of a direction.
use Rattle.std.specs.Prelude.{ℕ, ◌+◌, ◌*◌, ◌%◌, ◌^◌}
use Rattle.numbers.specs.Wrapping.{wrapping_mul_of}
use Rattle.draws.specs.Shifts.{xor_shift_right, golden_gamma}

-- the finalizer, with the shifts and multipliers of the source
unfoldable pub mix64_of : ℕ → ℕ
mix64_of z = xor_shift_right (wrapping_mul_of (xor_shift_right (wrapping_mul_of (xor_shift_right z 30) 0xBF58476D1CE4E5B9) 27) 0x94D049BB133111EB) 31

-- one step of SplitMix64 from the seed, moved on by a multiple of the salt
unfoldable pub mix_of : ℕ → ℕ → ℕ
mix_of seed salt = mix64_of ((seed + golden_gamma + salt * 0xD1B54A32D192ED03) % 2 ^ 64)

abbrev pub direction_seed_of : ℕ → ℕ → ℕ
direction_seed_of seed salt = mix_of seed salt
