-- Text in lower-case hexadecimal digits.
use Rattle.std.specs.Prelude.{ℕ, ◌+◌, ◌-◌, ◌*◌, ◌&&◌, List, [], ◌∷◌, ◌++◌, nat_le, Option, Some, None, if◌then◌else◌, option_map, option_and_then}

-- the value of a digit: the bytes 48 to 57 are 0 to 9, the bytes 97 to 102 are a to f
abbrev pub digit_of : ℕ → Option ℕ
digit_of b = if nat_le 48 b && nat_le b 57 then Some (b - 48) else (if nat_le 97 b && nat_le b 102 then Some (b - 97 + 10) else None)

-- the byte that two digits stand for
abbrev pub pair_of : ℕ → ℕ → Option ℕ
pair_of a b = option_and_then (λ high. option_map (λ low. high * 16 + low) (digit_of b)) (digit_of a)

-- the text, where so many of its bytes are decoded and these digits are left
unfoldable pub decode_from : List ℕ → List ℕ → Option (List ℕ)
decode_from text [] = Some text
decode_from text (a ∷ []) = None
decode_from text (a ∷ b ∷ digits) = option_and_then (λ byte. decode_from (text ++ (byte ∷ [])) digits) (pair_of a b)

abbrev pub decode_of : List ℕ → Option (List ℕ)
decode_of digits = decode_from [] digits
