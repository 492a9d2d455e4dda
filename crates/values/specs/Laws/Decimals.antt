-- The digits before and behind the point are read one after the other: 15 of them never reach 2 ^ 64.
use Rattle.std.specs.Prelude.{◌≡◌, ℕ, ◌+◌, ◌*◌, ◌^◌, ◌<◌, ◌≤◌, Bool, true, false, cond, ◌&&◌, List, ◌++◌, length, Float, Result, Ok, Err, nat_le, nat_lt, refl}
use Rattle.std.proofs.Common.{ap, le_trans, le_refl, mul-le-mul, arith, lit<, lit≤, length-append, pow-add}
use Rattle.std.proofs.Math.Bool.{and-true}
use Rattle.std.proofs.Math.Nat.{pow-le-pow_right}
use borrow.Author.Tests.{lt-ltb, le-leb, lt-leb, leb-true}
use Rattle.std.specs.Float.{binary64}
use Rattle.std.specs.Float.Ieee.{round}
use Rattle.numbers.specs.Digits.{all_digits, whole_from, whole_value, decimal_value}
use Rattle.numbers.specs.Laws.Digits.{digits_append, whole_append, whole_lt, whole_width}
use Rattle.numbers.specs.Laws.Decimals.{decimal_rounded}
use Rattle.numbers.specs.declared.refusal.Refusal.{Refusal}
use Rattle.numbers.specs.declared.refusal.Refusal.TheVariants as refusal
use Rattle.numbers.specs.Laws.Both.{second_false}
use Rattle.values.specs.Whole.{digits_from}
use Rattle.values.specs.Stages.{read_on, over_ten}
use Rattle.values.specs.Decimal.{decimal_of}
use Rattle.values.specs.Laws.Digits.{digits_few}

room : (w f : List ℕ) → length w + length f ≤ 15 → 10 ^ length w * 10 ^ length f ≤ 2 ^ 64
room w f h = rw (← (pow-add 10 (length w) (length f))) (le_trans (pow-le-pow_right (lit< tt) h) (lit≤ tt))

module _ (w f : List ℕ) (some : 0 < length w + length f) (most : length w + length f ≤ 15) where
  plain : decimal_of w f ≡ cond (all_digits w && all_digits f) (Ok (decimal_value (whole_from (whole_value w) f) (length f))) (Err refusal.Decimal)
  unfolding decimal_of
  plain = rw (length-append, lt-ltb _ _ some, le-leb _ _ most, digits_append, whole_append, and-true (all_digits w && all_digits f))

  first : digits_from 0 w ≡ cond (all_digits w) (Ok (whole_value w)) (Err refusal.Whole)
  first = digits_few w 0 (le_trans (omega (arith, mul-le-mul (le_refl (10 ^ length w)) (one_le f))) (room w f most))
    where
      one_le : (s : List ℕ) → 1 ≤ 10 ^ length s
      one_le s = pow-le-pow_right {n = 10} (lit< tt) {i = 0} {j = length s} (omega arith)

  second : all_digits w ≡ true → digits_from (whole_value w) f ≡ cond (all_digits f) (Ok (whole_from (whole_value w) f)) (Err refusal.Whole)
  second h =
      let a : whole_value w + 1 ≤ 10 ^ length w = omega (arith, whole_lt w h) in
      digits_few f (whole_value w) (le_trans (mul-le-mul a (le_refl (10 ^ length f))) (room w f most))

  cases : (a : Bool) → all_digits w ≡ a → (b : Bool) → all_digits f ≡ b → decimal_of w f ≡ over_ten (read_on (digits_from 0 w) f) (length f)
  unfolding over_ten
  cases true p true q = rw (plain, first, p, second p, q)
  cases true p false q = rw (plain, first, p, second p, q)
  cases false p b q = rw (plain, first, p)

  pub decimal_read : decimal_of w f ≡ over_ten (read_on (digits_from 0 w) f) (length f)
  decimal_read = cases (all_digits w) refl (all_digits f) refl

no : (a b : Bool) (x y : Result Float Refusal) → b ≡ false → cond (a && b) x y ≡ y
no a b x y h = rw (second_false a b h)

pub decimal_none : (w f : List ℕ) → length w + length f ≡ 0 → decimal_of w f ≡ Err refusal.Decimal
unfolding decimal_of
decimal_none w f h = no (all_digits (w ++ f)) _ _ _ (rw (length-append, h))

pub decimal_long : (w f : List ℕ) → 15 < length w + length f → decimal_of w f ≡ Err refusal.Decimal
unfolding decimal_of
decimal_long w f h = no (all_digits (w ++ f)) _ _ _ (rw length-append (second_false (nat_lt 0 (length w + length f)) _ (lt-leb (length w + length f) 15 h)))

-- a decimal is refused by 10, or it is at most 15 digits over a power of ten of at most 15
pub decimal_or : (P : Result Float Refusal → Type 0) → ((n k : ℕ) → n ≤ 999999999999999 → k ≤ 15 → P (Ok (decimal_value n k))) → P (Err refusal.Decimal) → (w f : List ℕ) → P (decimal_of w f)
unfolding decimal_of
decimal_or P taken turned w f = go (all_digits (w ++ f)) (nat_lt 0 (length (w ++ f))) (nat_le (length (w ++ f)) 15) refl refl
  where
    go : (a b c : Bool) → all_digits (w ++ f) ≡ a → nat_le (length (w ++ f)) 15 ≡ c → P (cond (a && (b && c)) (Ok (decimal_value (whole_value (w ++ f)) (length f))) (Err refusal.Decimal))
    go false b c d l = turned
    go true false c d l = turned
    go true true false d l = turned
    go true true true d l =
        let few : length (w ++ f) ≤ 15 = leb-true (length (w ++ f)) 15 l in
        taken (whole_value (w ++ f)) (length f) (omega (arith, whole_width 15 (w ++ f) d few)) (omega (arith, length-append w f, few))

-- the value is the fraction that the digits and the point write, correctly rounded
pub decimal_correct : (w f : List ℕ)
    → decimal_of w f ≡ cond (all_digits (w ++ f) && (nat_lt 0 (length (w ++ f)) && nat_le (length (w ++ f)) 15)) (Ok (round binary64 false (whole_value (w ++ f)) (10 ^ length f))) (Err refusal.Decimal)
unfolding decimal_of
decimal_correct w f = go (all_digits (w ++ f)) (nat_lt 0 (length (w ++ f))) (nat_le (length (w ++ f)) 15) refl refl
  where
    go : (a b c : Bool) → all_digits (w ++ f) ≡ a → nat_le (length (w ++ f)) 15 ≡ c
        → cond (a && (b && c)) (Ok (decimal_value (whole_value (w ++ f)) (length f))) (Err refusal.Decimal) ≡ cond (a && (b && c)) (Ok (round binary64 false (whole_value (w ++ f)) (10 ^ length f))) (Err refusal.Decimal)
    go false b c d l = refl
    go true false c d l = refl
    go true true false d l = refl
    go true true true d l =
        let few : length (w ++ f) ≤ 15 = leb-true (length (w ++ f)) 15 l in
        ap Ok (decimal_rounded (whole_value (w ++ f)) (length f) (omega (arith, whole_width 15 (w ++ f) d few)) (omega (arith, length-append w f, few)))
