-- Counters, lengths and widths that are let through: what they are below, and that the bits of several counters may be judged at once.
use Rattle.std.specs.Prelude.{◌≡◌, ℕ, ◌<◌, ◌≤◌, true, ◌&&◌, ltb, bit_or, nat_le, nat_lt}
use Rattle.std.proofs.Common.{sym, subst, le_refl, le_trans, le_of_eq, add-le-add, lt_of_le_of_lt, ltb→lt, lt→ltb, leb→le, le→leb}
use Rattle.std.proofs.Math.Bool.{and-eq-true_iff}
use Rattle.std.proofs.Math.Nat.{add-le-add_iff_right}
use Rattle.std.proofs.lemmas.Nat.{or_lt, and_le_r, or_comm}
use Rattle.std.specs.Int.Bits.{or_add_and}
use Rattle.std.specs.Float.Ieee.Bits.{is_true}
use Rattle.numbers.specs.Limits.{min_width, max_width, is_width_of, max_length, is_length_of, counter_limit, is_counter_of}
use Rattle.numbers.specs.Laws.Both.{both, both_true}
use Rattle.numbers.specs.Laws.Order.{same_test}

pub counter_below : (n : ℕ) → is_counter_of n ≡ true → n < counter_limit
unfolding is_counter_of
counter_below n h = ltb→lt n counter_limit (rw h tt)

pub length_within : (n : ℕ) → is_length_of n ≡ true → n ≤ max_length
unfolding is_length_of
length_within n h = leb→le n max_length (rw h tt)

pub width_within : (n : ℕ) → is_width_of n ≡ true → (min_width ≤ n) × (n ≤ max_width)
unfolding is_width_of
width_within n h =
    let both = both_true (nat_le min_width n) (nat_le n max_width) h in
    (leb→le min_width n (rw both.0 tt), leb→le n max_width (rw both.1 tt))

pub width_passes : (n : ℕ) → min_width ≤ n → n ≤ max_width → is_width_of n ≡ true
unfolding is_width_of
width_passes n low high = both (nat_le min_width n) (nat_le n max_width) (is_true _ (le→leb min_width n low)) (is_true _ (le→leb n max_width high))

-- `|` is no less than either side
left_le_or : (a b : ℕ) → a ≤ bit_or a b
left_le_or a b = (add-le-add_iff_right b).0 (le_trans (le_of_eq (sym (or_add_and a b))) (add-le-add (le_refl (bit_or a b)) (and_le_r a b)))

right_le_or : (a b : ℕ) → b ≤ bit_or a b
right_le_or a b = subst (λ (x : ℕ). b ≤ x) (or_comm b a) (left_le_or b a)

-- two numbers are counters where the bits of both together are one
pub counters_or : (a b : ℕ) → is_counter_of (bit_or a b) ≡ (is_counter_of a && is_counter_of b)
unfolding is_counter_of
counters_or a b =
    let x = ltb a counter_limit in
    let y = ltb b counter_limit in
    same_test (nat_lt (bit_or a b) counter_limit) (x && y)
    (λ t.
    let below = ltb→lt (bit_or a b) counter_limit t in
    rw (is_true x (lt→ltb a counter_limit (lt_of_le_of_lt (left_le_or a b) below)), is_true y (lt→ltb b counter_limit (lt_of_le_of_lt (right_le_or a b) below))) tt)
    (λ t.
    let both = (and-eq-true_iff x y).0 (is_true (x && y) t) in
    lt→ltb (bit_or a b) counter_limit (or_lt 60 a b (ltb→lt a counter_limit (rw both.0 tt)) (ltb→lt b counter_limit (rw both.1 tt))))
