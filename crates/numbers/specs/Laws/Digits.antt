-- What a list of digits gives, for every number of digits.
use Rattle.std.specs.Prelude.{◌≡◌, ℕ, ◌+◌, ◌-◌, ◌*◌, ◌^◌, ◌<◌, ◌≤◌, true, ◌&&◌, List, [], ◌∷◌, ◌++◌, length, nat_le, refl}
use Rattle.std.proofs.Math.Bool.{and_assoc}
use Rattle.std.proofs.Common.{le_refl, lt_of_lt_of_le, mul-le-mul_right, pow-suc, arith, leb-true, lit<}
use Rattle.std.proofs.Math.Nat.{pow-le-pow_right}
use Rattle.numbers.specs.Laws.Both.{both_true}
use Rattle.numbers.specs.Digits.{is_digit, all_digits, whole_from, whole_value}

pub digit_range : (b : ℕ) → is_digit b ≡ true → (48 ≤ b) × (b ≤ 57)
digit_range b h = let t = both_true (nat_le 48 b) (nat_le b 57) h in (leb-true 48 b t.0, leb-true b 57 t.1)

pub digits_cons : (b : ℕ) (s : List ℕ) → all_digits (b ∷ s) ≡ true → (is_digit b ≡ true) × (all_digits s ≡ true)
digits_cons b s h = both_true (is_digit b) (all_digits s) h

pub digits_append : (s t : List ℕ) → all_digits (s ++ t) ≡ (all_digits s && all_digits t)
digits_append [] t = refl
digits_append (b ∷ s) t = rw (digits_append s t, and_assoc (is_digit b) (all_digits s) (all_digits t))

-- two lists of digits are read one after the other
pub whole_append : (s t : List ℕ) (n : ℕ) → whole_from n (s ++ t) ≡ whole_from (whole_from n s) t
whole_append [] t n = refl
whole_append (b ∷ s) t n = whole_append s t (n * 10 + (b - 48))

-- one digit more
pub whole_digit : (s : List ℕ) (b n : ℕ) → whole_from n (s ++ (b ∷ [])) ≡ whole_from n s * 10 + (b - 48)
whole_digit s b n = whole_append s (b ∷ []) n

-- what was read before k digits counts 10 ^ k times
pub whole_place : (s : List ℕ) (n : ℕ) → whole_from n s ≡ n * 10 ^ length s + whole_value s
whole_place [] n = omega arith
whole_place (b ∷ s) n = rw (pow-suc 10 (length s)) (omega (arith, whole_place s (n * 10 + (b - 48)), whole_place s (0 * 10 + (b - 48))))

-- k digits give less than 10 ^ k
pub whole_lt : (s : List ℕ) → all_digits s ≡ true → whole_value s < 10 ^ length s
whole_lt [] h = lit< tt
whole_lt (b ∷ s) h =
    let t = digits_cons b s h in
    let d = digit_range b t.0 in
    let most : 0 * 10 + (b - 48) + 1 ≤ 10 = omega arith in
    rw (pow-suc 10 (length s)) (omega (arith, whole_place s (0 * 10 + (b - 48)), whole_lt s t.1, mul-le-mul_right (10 ^ length s) most))

-- and so do fewer, for every width k
pub whole_width : (k : ℕ) (s : List ℕ) → all_digits s ≡ true → length s ≤ k → whole_value s < 10 ^ k
whole_width k s h l = lt_of_lt_of_le (whole_lt s h) (pow-le-pow_right (lit< tt) l)

-- k digits read on from n give less than n + 1 with k zeros behind it
pub whole_from_lt : (s : List ℕ) (n : ℕ) → all_digits s ≡ true → whole_from n s < (n + 1) * 10 ^ length s
whole_from_lt s n h = omega (arith, whole_place s n, whole_lt s h)

-- a number that is read on never falls
pub whole_grows : (s : List ℕ) (n : ℕ) → n ≤ whole_from n s
whole_grows [] n = le_refl n
whole_grows (b ∷ s) n = omega (arith, whole_grows s (n * 10 + (b - 48)))
