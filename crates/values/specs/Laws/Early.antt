-- A number that is refused is refused before the mode checks of the option text.
use Rattle.std.specs.Prelude.{refl, ◌^◌, ◌==◌, ◌&&◌, nat_lt, length, Ok, Err, List, ℕ, Result, Float}
use Rattle.std.specs.Float.Ieee.{lt}
use Rattle.numbers.specs.Digits.{all_digits, whole_from}
use Rattle.numbers.specs.Laws.Results.{cond_refused}
use Rattle.numbers.specs.Refusals.{EarlyIfRefused}
use Rattle.numbers.specs.Whole.{whole}
use Rattle.numbers.specs.declared.refusal.Refusal.{Refusal}
use Rattle.values.specs.Decimal.{parse_f64_ms_of, at_most_one, parse_prob_of}
use Rattle.values.specs.Laws.Decimals.{decimal_or}
use Rattle.values.specs.Whole.{digits_from, without_plus, is_bounded, parse_u64_of, at_most, not_zero, parse_bounded_of, parse_positive_of}

pub whole_early : (v : List ℕ) → EarlyIfRefused (parse_u64_of v)
unfolding parse_u64_of digits_from
whole_early v =
    let d = without_plus v in
    cond_refused _ (length d == 0) _ _ refl (cond_refused _ (all_digits d && nat_lt (whole_from 0 d) (2 ^ 64)) _ _ tt refl)

at_most_early : (r : Result ℕ Refusal) → EarlyIfRefused r → EarlyIfRefused (at_most r)
unfolding at_most
at_most_early (Ok n) h = cond_refused _ (is_bounded n) _ _ tt refl
at_most_early (Err k) h = h

pub bounded_early : (v : List ℕ) → EarlyIfRefused (parse_bounded_of v)
bounded_early v = at_most_early (parse_u64_of v) (whole_early v)

not_zero_early : (r : Result ℕ Refusal) → EarlyIfRefused r → EarlyIfRefused (not_zero r)
unfolding not_zero
not_zero_early (Ok n) h = cond_refused _ (n == 0) _ _ refl tt
not_zero_early (Err k) h = h

pub positive_early : (v : List ℕ) → EarlyIfRefused (parse_positive_of v)
positive_early v = not_zero_early (parse_bounded_of v) (bounded_early v)

pub time_early : (v : List ℕ) → EarlyIfRefused (parse_f64_ms_of v)
unfolding parse_f64_ms_of
time_early v = decimal_or EarlyIfRefused (λ n k h l. tt) refl _ _

at_most_one_early : (r : Result Float Refusal) → EarlyIfRefused r → EarlyIfRefused (at_most_one r)
unfolding at_most_one
at_most_one_early (Ok x) h = cond_refused _ (lt (whole 1) x) _ _ refl tt
at_most_one_early (Err k) h = h

pub probability_early : (v : List ℕ) → EarlyIfRefused (parse_prob_of v)
probability_early v = at_most_one_early (parse_f64_ms_of v) (time_early v)
