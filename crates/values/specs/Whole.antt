-- Whole numbers (document 01, "Option text"): behind a plus sign or none at least one digit, and the number is below 2^64.
use Rattle.std.specs.Prelude.{ℕ, ◌^◌, Bool, cond, ◌&&◌, List, [], ◌∷◌, length, Result, Ok, Err, ◌==◌, nat_le, nat_lt}
use Rattle.numbers.specs.Digits.{all_digits, whole_from}
use Rattle.numbers.specs.Limits.{max_exact}
use Rattle.numbers.specs.declared.refusal.Refusal.{Refusal}
use Rattle.numbers.specs.declared.refusal.Refusal.TheVariants as refusal
use Rattle.values.specs.Bytes.{plus_sign}

-- the digits of s read on from n: nothing but digits, and the number below 2 ^ 64
unfoldable pub digits_from : ℕ → List ℕ → Result ℕ Refusal
digits_from n s = cond (all_digits s && nat_lt (whole_from n s) (2 ^ 64)) (Ok (whole_from n s)) (Err refusal.Whole)

-- without the optional plus sign
abbrev pub without_plus : List ℕ → List ℕ
without_plus [] = []
without_plus (b ∷ s) = cond (b == plus_sign) s (b ∷ s)

-- one or more digits
unfoldable pub parse_u64_of : List ℕ → Result ℕ Refusal
parse_u64_of v = cond (length (without_plus v) == 0) (Err refusal.Whole) (digits_from 0 (without_plus v))

-- what every whole number but the seed has to be
abbrev pub is_bounded : ℕ → Bool
is_bounded n = nat_le n max_exact

unfoldable pub at_most : Result ℕ Refusal → Result ℕ Refusal
at_most (Ok n) = cond (is_bounded n) (Ok n) (Err refusal.WholeAbove)
at_most (Err e) = Err e

abbrev pub parse_bounded_of : List ℕ → Result ℕ Refusal
parse_bounded_of v = at_most (parse_u64_of v)

-- refusal 9: some options may not be zero
unfoldable pub not_zero : Result ℕ Refusal → Result ℕ Refusal
not_zero (Ok n) = cond (n == 0) (Err refusal.Zero) (Ok n)
not_zero (Err e) = Err e

abbrev pub parse_positive_of : List ℕ → Result ℕ Refusal
parse_positive_of v = not_zero (parse_bounded_of v)
