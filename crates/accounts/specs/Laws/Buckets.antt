-- A latency has one of the twelve buckets, and the last for NaN and for 5000 or more.
use Rattle.std.specs.Prelude.{◌≡◌, refl, Bool, true, false, not, cond, ◌&&◌, List, [], ◌∷◌, map, ℕ, suc, ◌≤◌, ◌<◌, T, leb, length, Float}
use Rattle.std.proofs.Common.{ap, ◌∙◌, zero-le, le_trans, arith, leb→le, le→leb}
use Rattle.std.proofs.Math.Bool.{and-eq-true_iff}
use Rattle.std.specs.Float.{nan}
use Rattle.std.specs.Float.Ieee.{lt, le}
use Rattle.std.specs.Float.Ieee.Bits.{is_true}
use Rattle.numbers.specs.Limits.{max_exact}
use Rattle.numbers.specs.Whole.{whole}
use Rattle.numbers.specs.Laws.Kinds.{Number, plus_finite_number}
use Rattle.numbers.specs.Laws.Order.{lt_is_not_le}
use Rattle.numbers.specs.Laws.Whole.{whole_le}
use Rattle.numbers.specs.Laws.Bounded.{whole_bounded}
use Rattle.numbers.specs.Laws.Transitive.{le_trans as order_trans}
use Rattle.accounts.specs.Buckets.{bounds_ms, bounds, first_above, bucket_index_of}

above_within : (x : Float) (bs : List Float) → first_above x bs ≤ length bs
above_within x [] = zero-le
above_within x (b ∷ bs) = go (lt x b) (above_within x bs)
  where
    go : (above : Bool) → first_above x bs ≤ length bs → cond above 0 (suc (first_above x bs)) ≤ suc (length bs)
    go true h = omega arith
    go false h = omega (arith, h)

pub bucket_within : (x : Float) → bucket_index_of x < 12
unfolding bucket_index_of bounds
bucket_within x = omega (arith, above_within x bounds)

pub nan_bucket : bucket_index_of nan ≡ 11
unfolding bucket_index_of bounds lt
nan_bucket = refl

-- whether no number of a list is above n
abbrev at_most : ℕ → List ℕ → Bool
at_most n [] = true
at_most n (b ∷ bs) = leb b n && at_most n bs

module _ (n : ℕ) (small : n ≤ max_exact) {x : Float} (number : Number x) (high : T (le (whole n) x)) where
  -- a bound that is at most n is not above x
  not_above : (b : ℕ) → b ≤ n → lt x (whole b) ≡ false
  not_above b h =
      let wide : b ≤ max_exact = le_trans h small in
      let level = plus_finite_number (whole_bounded b wide).clear in
      let under : T (le (whole b) (whole n)) = rw (whole_le b n wide small) (le→leb b n h) in
      lt_is_not_le level number ∙ ap not (is_true (le (whole b) x) (order_trans level (plus_finite_number (whole_bounded n small).clear) number under high))

  none_above : (bs : List ℕ) → at_most n bs ≡ true → first_above x (map whole bs) ≡ length bs
  none_above [] h = refl
  none_above (b ∷ bs) h =
      let both = (and-eq-true_iff (leb b n) (at_most n bs)).0 h in
      rw (not_above b (leb→le b n (rw both.0 tt)), none_above bs both.1)

pub last_bucket : {x : Float} → Number x → T (le (whole 5000) x) → bucket_index_of x ≡ 11
unfolding bucket_index_of bounds
last_bucket number high = none_above 5000 (omega arith) number high bounds_ms refl
