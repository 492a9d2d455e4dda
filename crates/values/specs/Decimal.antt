-- Decimals (document 01, "Option text"): behind a plus sign or none up to 15 digits, at least one, and among them a point or none.
use Rattle.std.specs.Prelude.{ℕ, cond, ◌&&◌, List, ◌++◌, length, Float, Result, Ok, Err, nat_le, nat_lt}
use Rattle.std.specs.Float.Ieee.{lt}
use Rattle.numbers.specs.Digits.{all_digits, whole_value, decimal_value}
use Rattle.numbers.specs.declared.refusal.Refusal.{Refusal}
use Rattle.numbers.specs.declared.refusal.Refusal.TheVariants as refusal
use Rattle.numbers.specs.Whole.{whole}
use Rattle.values.specs.Bytes.{before_first, behind_first, point}
use Rattle.values.specs.Whole.{without_plus}

-- w stands before the point and f behind it; the digits of both are one whole number
unfoldable pub decimal_of : List ℕ → List ℕ → Result Float Refusal
decimal_of w f =
    cond (all_digits (w ++ f) && (nat_lt 0 (length (w ++ f)) && nat_le (length (w ++ f)) 15))
    (Ok (decimal_value (whole_value (w ++ f)) (length f)))
    (Err refusal.Decimal)

-- a time in milliseconds is a decimal
unfoldable pub parse_f64_ms_of : List ℕ → Result Float Refusal
parse_f64_ms_of v = let d = without_plus v in decimal_of (before_first point d) (behind_first point d)

-- a probability is a decimal that is not above 1
unfoldable pub at_most_one : Result Float Refusal → Result Float Refusal
at_most_one (Ok x) = cond (lt (whole 1) x) (Err refusal.Probability) (Ok x)
at_most_one (Err e) = Err e

abbrev pub parse_prob_of : List ℕ → Result Float Refusal
parse_prob_of v = at_most_one (parse_f64_ms_of v)
