-- Bit patterns in hexadecimal digits.
use Rattle.std.specs.Prelude.{ℕ, ◌+◌, ◌*◌, List, [], ◌∷◌, length, ◌==◌, Option, Some, None, if◌then◌else◌, option_and_then}
use Rattle.script.specs.Hex.{digit_of}

-- the digits read on from n
unfoldable pub pattern_from : ℕ → List ℕ → Option ℕ
pattern_from n [] = Some n
pattern_from n (b ∷ s) = option_and_then (λ d. pattern_from (n * 16 + d) s) (digit_of b)

-- exactly 16 digits
abbrev pub pattern_of : List ℕ → Option ℕ
pattern_of digits = if length digits == 16 then pattern_from 0 digits else None
