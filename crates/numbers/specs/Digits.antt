-- Digits as document 01 reads them ("Option text"): a decimal is a whole number that is divided once, by a power of ten.
use Rattle.std.specs.Prelude.{ℕ, ◌+◌, ◌-◌, ◌*◌, ◌^◌, Bool, true, ◌&&◌, List, [], ◌∷◌, nat_le, Float}
use Rattle.std.specs.Float.{binary64}
use Rattle.std.specs.Float.Ieee.{div}
use Rattle.numbers.specs.Whole.{whole}

-- the bytes 48 to 57 are the digits 0 to 9
abbrev pub is_digit : ℕ → Bool
is_digit b = nat_le 48 b && nat_le b 57

abbrev pub all_digits : List ℕ → Bool
all_digits [] = true
all_digits (b ∷ s) = is_digit b && all_digits s

-- the whole number that digits give, read on from n
abbrev pub whole_from : ℕ → List ℕ → ℕ
whole_from n [] = n
whole_from n (b ∷ s) = whole_from (n * 10 + (b - 48)) s

abbrev pub whole_value : List ℕ → ℕ
whole_value s = whole_from 0 s

-- the float of a whole number n over 10 ^ k, one division
unfoldable pub decimal_value : ℕ → ℕ → Float
decimal_value n k = div binary64 (whole n) (whole (10 ^ k))
