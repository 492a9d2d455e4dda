-- Times, rates and capacities: numbers from 0 to 2 ^ 53 with a clear sign bit.
use Rattle.std.specs.Prelude.{◌≡◌, ℕ, ◌*◌, ◌≤◌, Bool, true, false, not, T, pos, refl, Float}
use Rattle.std.proofs.Common.{sym, ap, ◌∙◌, true≢false, arith, le→leb, lit<}
use Rattle.std.specs.Float.{nan, inf, fin, binary64}
use Rattle.std.specs.Float.Ieee.{is_nan, lt, le}
use Rattle.numbers.specs.Whole.{whole}
use Rattle.numbers.specs.Limits.{max_exact}
use Rattle.numbers.specs.Instant.{last_instant, is_instant_of}
use Rattle.numbers.specs.Laws.Kinds.{PlusFinite, plus_finite, value_plus, Number, number_inf, number_fin}
use Rattle.numbers.specs.Laws.Order.{lt_is_not_le}
use Rattle.numbers.specs.Laws.Whole.{le_values, whole_value_lem}

pub record Bounded (x : Float) : Type 0 where
  pub clear : PlusFinite x
  pub small : T (le x last_instant)

abbrev pub nought : Float
nought = fin false 0 (pos 0)

pub nought_bounded : Bounded nought
unfolding le
nought_bounded = record { clear = plus_finite 0 (pos 0); small = tt }

-- what passes the test of an instant
not_above : {t : Float} → Number t → not (lt last_instant t) ≡ true → T (le t last_instant)
not_above {t} p h = go (le t last_instant) (ap not (sym (lt_is_not_le p (number_fin false 1 (pos 53)))) ∙ h)
  where
    go : (b : Bool) → not (not b) ≡ true → T b
    go true h = tt
    go false h = absurd (true≢false (sym h))

pub instant_bounded : (t : Float) → is_instant_of t ≡ true → Bounded t
unfolding is_instant_of is_nan le
instant_bounded nan h = absurd (true≢false (sym h))
instant_bounded (inf true) h = absurd (true≢false (sym h))
instant_bounded (inf false) h = absurd (not_above (number_inf false) h)
instant_bounded (fin true m e) h = absurd (true≢false (sym h))
instant_bounded (fin false m e) h = record { clear = plus_finite m e; small = not_above (number_fin false m e) h }

-- a whole number up to 2 ^ 53
pub whole_bounded : (n : ℕ) → n ≤ max_exact → Bounded (whole n)
whole_bounded n h =
    let v = whole_value_lem binary64 n h in
    record {
      clear = value_plus _ n 1 v;
      small = rw (le_values _ last_instant n 1 max_exact 1 (lit< tt) (lit< tt) v (refl, refl)) (le→leb (n * 1) (max_exact * 1) (omega arith));
    }
