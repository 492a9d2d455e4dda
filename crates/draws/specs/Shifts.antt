-- The steps that both papers' generators are made of, over natural numbers below 2 ^ 64.
use Rattle.std.specs.Prelude.{ℕ, ◌-◌, ◌*◌, ◌/◌, ◌%◌, ◌^◌, bit_xor}

-- x ^ (x >> k)
abbrev pub xor_shift_right : ℕ → ℕ → ℕ
xor_shift_right x k = bit_xor x (x / 2 ^ k)

-- x ^ (x << k)
abbrev pub xor_shift_left : ℕ → ℕ → ℕ
xor_shift_left x k = bit_xor x (x * 2 ^ k % 2 ^ 64)

-- the top w of the 64 bits of x
abbrev pub top_bits : ℕ → ℕ → ℕ
top_bits w x = x / 2 ^ (64 - w)

-- the whole part of 2 ^ 64 over the golden ratio: SplitMix64's increment
abbrev pub golden_gamma : ℕ
golden_gamma = 0x9E3779B97F4A7C15
