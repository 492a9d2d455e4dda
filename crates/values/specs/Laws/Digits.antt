-- Digits read one by one: what a digit adds, where reading ends and where it is refused.
use Rattle.std.specs.Prelude.{◌≡◌, ℕ, ◌+◌, ◌-◌, ◌*◌, ◌^◌, ◌<◌, ◌≤◌, Bool, true, false, cond, ◌&&◌, List, [], ◌∷◌, length, drop, Result, Ok, Err, ◌==◌, ◌≢◌, nat_le, nat_lt, slice_index, refl}
use Rattle.std.proofs.Common.{◌∙◌, le_trans, lt_of_lt_of_le, not-suc-le-zero, le-ltb, lt-ltb, eq-eqb, ne_eqb, leb-true, ltb-true, ltb-false}
use Rattle.std.proofs.lemmas.Bool.{eqb-false}
use Rattle.numbers.specs.Digits.{is_digit, all_digits, whole_from}
use Rattle.numbers.specs.Limits.{max_exact}
use Rattle.numbers.specs.Laws.Digits.{whole_grows, whole_from_lt}
use Rattle.numbers.specs.declared.refusal.Refusal.{Refusal}
use Rattle.numbers.specs.declared.refusal.Refusal.TheVariants as refusal
use Rattle.numbers.specs.Laws.Both.{second_false}
use Rattle.values.specs.Bytes.{plus_sign}
use Rattle.values.specs.Stages.{read_on}
use Rattle.values.specs.Whole.{digits_from, without_plus, at_most, not_zero}

pub no_digit : (b n : ℕ) (s : List ℕ) → is_digit b ≡ false → digits_from n (b ∷ s) ≡ Err refusal.Whole
unfolding digits_from
no_digit b n s h = rw h

pub digit_more_lem : (b n : ℕ) (s : List ℕ) → is_digit b ≡ true → digits_from n (b ∷ s) ≡ digits_from (n * 10 + (b - 48)) s
unfolding digits_from
digit_more_lem b n s h = rw h

pub digit_over : (b n : ℕ) (s : List ℕ) → is_digit b ≡ true → 2 ^ 64 ≤ n * 10 + (b - 48) → digits_from n (b ∷ s) ≡ Err refusal.Whole
unfolding digits_from
digit_over b n s h k =
    let over = le-ltb (whole_from (n * 10 + (b - 48)) s) (2 ^ 64) (le_trans k (whole_grows s (n * 10 + (b - 48)))) in
    digit_more_lem b n s h ∙ rw (second_false (all_digits s) _ over)

pub digits_end : (n : ℕ) → n < 2 ^ 64 → digits_from n [] ≡ Ok n
unfolding digits_from
digits_end n h = rw (lt-ltb n (2 ^ 64) h)

-- the first digit, and then the others
pub digits_cons : (b n : ℕ) (s : List ℕ) → digits_from n (b ∷ s) ≡ read_on (digits_from n (b ∷ [])) s
digits_cons b n s = go (is_digit b) refl
  where
    m : ℕ
    m = n * 10 + (b - 48)

    more : is_digit b ≡ true → (t : Bool) → nat_lt m (2 ^ 64) ≡ t → digits_from n (b ∷ s) ≡ read_on (digits_from n (b ∷ [])) s
    more h true e = rw (digit_more_lem b n s h, digit_more_lem b n [] h, digits_end m (ltb-true m (2 ^ 64) e))
    more h false e = rw (digit_over b n s h (ltb-false m (2 ^ 64) e), digit_over b n [] h (ltb-false m (2 ^ 64) e))

    go : (t : Bool) → is_digit b ≡ t → digits_from n (b ∷ s) ≡ read_on (digits_from n (b ∷ [])) s
    go true h = more h (nat_lt m (2 ^ 64)) refl
    go false h = rw (no_digit b n s h, no_digit b n [] h)

few : (a b : Bool) (x y : Result ℕ Refusal) → (a ≡ true → b ≡ true) → cond (a && b) x y ≡ cond a x y
few true b x y h = rw (h refl)
few false b x y h = refl

-- few digits are refused only where one is none: k of them, read on from n, stay below (n + 1) * 10 ^ k
pub digits_few : (s : List ℕ) (n : ℕ) → (n + 1) * 10 ^ length s ≤ 2 ^ 64 → digits_from n s ≡ cond (all_digits s) (Ok (whole_from n s)) (Err refusal.Whole)
unfolding digits_from
digits_few s n k = few (all_digits s) _ _ _ (λ h. lt-ltb _ _ (lt_of_lt_of_le (whole_from_lt s n h) k))

pub plussed : (v : List ℕ) → 0 < length v → slice_index v 0 ≡ plus_sign → without_plus v ≡ drop 1 v
plussed [] h e = absurd (not-suc-le-zero h)
plussed (b ∷ s) h e = rw (eq-eqb b plus_sign e)

pub not_plussed : (v : List ℕ) → (slice_index v 0 ≢ plus_sign) → without_plus v ≡ v
not_plussed [] e = refl
not_plussed (b ∷ s) e = rw (ne_eqb b plus_sign e)

pub not_plussed_nil : (v : List ℕ) → length v ≤ 0 → without_plus v ≡ v
not_plussed_nil [] h = refl
not_plussed_nil (b ∷ s) h = absurd (not-suc-le-zero h)

-- a number up to 2 ^ 53 is taken, or there is a refusal
pub bounded_or : (P : Result ℕ Refusal → Type 0) → ((n : ℕ) → n ≤ max_exact → P (Ok n)) → ((e : Refusal) → P (Err e)) → (w : Result ℕ Refusal) → P (at_most w)
unfolding at_most
bounded_or P taken turned (Err e) = turned e
bounded_or P taken turned (Ok n) = go (nat_le n max_exact) refl
  where
    go : (t : Bool) → nat_le n max_exact ≡ t → P (cond t (Ok n) (Err refusal.WholeAbove))
    go true h = taken n (leb-true n max_exact h)
    go false h = turned refusal.WholeAbove

-- and it is not zero
pub positive_or : (P : Result ℕ Refusal → Type 0) → ((n : ℕ) → (n ≢ 0) → n ≤ max_exact → P (Ok n)) → ((e : Refusal) → P (Err e)) → (w : Result ℕ Refusal) → P (not_zero (at_most w))
unfolding not_zero
positive_or P taken turned w = bounded_or (λ (x : Result ℕ Refusal). P (not_zero x)) some turned w
  where
    go : (n : ℕ) → n ≤ max_exact → (t : Bool) → (n == 0) ≡ t → P (cond t (Err refusal.Zero) (Ok n))
    go n h true e = turned refusal.Zero
    go n h false e = taken n (eqb-false n 0 e) h

    some : (n : ℕ) → n ≤ max_exact → P (cond (n == 0) (Err refusal.Zero) (Ok n))
    some n h = go n h (n == 0) refl
