-- The bytes of the programs' words.
use Rattle.std.specs.Prelude.{ℕ, ◌-◌, ◌^◌, false, List, [], ◌++◌, Option, Some, Result, Ok, Err, if◌then◌else◌, is_nan, to_bits, codes, decimal, Float}
use Rattle.std.specs.Float.{binary64}
use Rattle.std.specs.Fmt.{digits, format_spec, padded_integral}
use Rattle.numbers.specs.declared.refusal.Refusal.{Refusal}
use Rattle.numbers.specs.Refusals.{number_of}

-- hexadecimal digits in small letters, with zeros before them up to 16: what the hole `{:016x}` writes
abbrev pub sixteen_digits : ℕ → List ℕ
sixteen_digits n = padded_integral (format_spec 32 0 4 16 (2 ^ 64 - 1)) false [] (digits 16 false n)

-- a float by its bits, and every NaN by one word
abbrev pub bits_text : Float → List ℕ
bits_text x = if is_nan x then codes "nan" else sixteen_digits (to_bits binary64 x)

-- an answer by its own words, and a refusal by its number
abbrev pub answered_text : {T : Type 0} → (T → Option (List ℕ)) → Result T Refusal → Option (List ℕ)
answered_text output (Ok given) = output given
answered_text output (Err refusal) = Some (codes "refused " ++ decimal (number_of refusal))
