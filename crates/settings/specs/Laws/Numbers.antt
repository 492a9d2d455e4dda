-- What is read as a number, or put in its place where there is none, passes refusal 29's judgement.
use Rattle.std.specs.Prelude.{◌≡◌, refl, Bool, true, false, cond, Option, List, ℕ, ◌≤◌, Result, Ok, Err, IfOk, Float}
use Rattle.std.proofs.Common.{arith, le-leb, ne_eqb}
use Rattle.std.specs.Float.Ieee.{lt, le, of_int}
use Rattle.numbers.specs.Digits.{decimal_value}
use Rattle.numbers.specs.Laws.Both.{both}
use Rattle.numbers.specs.Laws.Decimals.{decimal_time, decimal_clear, probability_within, whole_zero}
use Rattle.numbers.specs.Laws.Kinds.{plus_finite_number}
use Rattle.numbers.specs.Laws.Results.{or_taken}
use Rattle.numbers.specs.Limits.{max_exact}
use Rattle.numbers.specs.Results.{read_or}
use Rattle.numbers.specs.Whole.{whole}
use Rattle.numbers.specs.declared.refusal.Refusal.{Refusal}
use Rattle.numbers.specs.declared.refusal.Refusal.TheVariants as refusal
use Rattle.values.specs.Decimal.{parse_f64_ms_of, at_most_one, parse_prob_of}
use Rattle.values.specs.Laws.Decimals.{decimal_or}
use Rattle.values.specs.Laws.Digits.{bounded_or, positive_or}
use Rattle.values.specs.Whole.{parse_u64_of, is_bounded, parse_bounded_of, parse_positive_of}
use Rattle.settings.specs.Judgement.{is_probability, is_time, is_positive}

pub zero_probability : is_probability (whole 0) ≡ true
unfolding le of_int
zero_probability = refl

pub zero_time : is_time (whole 0) ≡ true
unfolding le of_int
zero_time = refl

decimal_is_time : (n k : ℕ) → n ≤ 999999999999999 → k ≤ 15 → is_time (decimal_value n k) ≡ true
decimal_is_time n k h l = let t = decimal_time n k h l in rw whole_zero (both _ _ t.0 t.1)

-- a decimal that is not above 1
below_one : (n k : ℕ) → n ≤ 999999999999999 → k ≤ 15 → (t : Bool) → lt (whole 1) (decimal_value n k) ≡ t
    → IfOk (cond t (Err refusal.Probability) (Ok (decimal_value n k))) (λ x. is_probability x ≡ true)
below_one n k h l true e = tt
below_one n k h l false e =
    rw whole_zero (both _ _ (decimal_time n k h l).0 (probability_within (decimal_value n k) (plus_finite_number (decimal_clear n k (omega arith) l)) e))

pub prob_judged : (v : List ℕ) → IfOk (parse_prob_of v) (λ x. is_probability x ≡ true)
unfolding parse_f64_ms_of at_most_one
prob_judged v =
    decimal_or (λ (d : Result Float Refusal). IfOk (at_most_one d) (λ x. is_probability x ≡ true)) (λ n k h l. below_one n k h l (lt (whole 1) (decimal_value n k)) refl) tt _ _

pub probability_judged : (o : Option (List ℕ)) → IfOk (read_or parse_prob_of (whole 0) o) (λ x. is_probability x ≡ true)
probability_judged o = or_taken (λ x. is_probability x ≡ true) parse_prob_of (whole 0) o prob_judged zero_probability

ms_judged : (v : List ℕ) → IfOk (parse_f64_ms_of v) (λ x. is_time x ≡ true)
unfolding parse_f64_ms_of
ms_judged v = decimal_or (λ (d : Result Float Refusal). IfOk d (λ x. is_time x ≡ true)) decimal_is_time tt _ _

pub time_judged : (o : Option (List ℕ)) → IfOk (read_or parse_f64_ms_of (whole 0) o) (λ x. is_time x ≡ true)
time_judged o = or_taken (λ x. is_time x ≡ true) parse_f64_ms_of (whole 0) o ms_judged zero_time

pub bounded_is : (n : ℕ) → n ≤ max_exact → is_bounded n ≡ true
bounded_is n h = le-leb n max_exact h

pub positive_is : (n : ℕ) → (n ≡ 0 → ⊥) → n ≤ max_exact → is_positive n ≡ true
positive_is n z h = rw (ne_eqb n 0 z) (bounded_is n h)

pub bound_judged : (v : List ℕ) → IfOk (parse_bounded_of v) (λ n. is_bounded n ≡ true)
bound_judged v = bounded_or (λ (r : Result ℕ Refusal). IfOk r (λ n. is_bounded n ≡ true)) bounded_is (λ k. tt) (parse_u64_of v)

pub limit_judged : (v : List ℕ) → IfOk (parse_positive_of v) (λ n. is_positive n ≡ true)
limit_judged v = positive_or (λ (r : Result ℕ Refusal). IfOk r (λ n. is_positive n ≡ true)) positive_is (λ k. tt) (parse_u64_of v)

pub count_judged : (other : ℕ) → other ≤ max_exact → (o : Option (List ℕ)) → IfOk (read_or parse_bounded_of other o) (λ n. is_bounded n ≡ true)
count_judged other h o = or_taken (λ n. is_bounded n ≡ true) parse_bounded_of other o bound_judged (bounded_is other h)

pub positive_judged : (other : ℕ) → other ≤ max_exact → (o : Option (List ℕ)) → IfOk (read_or parse_positive_of other o) (λ n. is_bounded n ≡ true)
positive_judged other h o =
    or_taken (λ n. is_bounded n ≡ true) parse_positive_of other o
    (λ v. positive_or (λ (r : Result ℕ Refusal). IfOk r (λ n. is_bounded n ≡ true)) (λ n z l. bounded_is n l) (λ k. tt) (parse_u64_of v))
    (bounded_is other h)

pub cap_judged : (other : ℕ) → is_positive other ≡ true → (o : Option (List ℕ)) → IfOk (read_or parse_positive_of other o) (λ n. is_positive n ≡ true)
cap_judged other h o = or_taken (λ n. is_positive n ≡ true) parse_positive_of other o limit_judged h
