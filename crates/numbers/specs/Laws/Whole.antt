-- Floats with a clear sign bit compare as the fractions that they are, and so whole numbers up to 2 ^ 53 as floats compare as the numbers.
use Rattle.std.specs.Prelude.{◌≡◌, ℕ, ◌*◌, ◌^◌, ◌<◌, ◌≤◌, false, not, ltb, leb, pos, nat_le, nat_lt, Float}
use Rattle.std.proofs.Common.{sym, ap, ap₂, ◌∙◌, mul-one, leb→le, le→leb, lit<}
use Rattle.std.specs.Float.{fin, Format, binary64}
use Rattle.std.specs.Float.Ieee.{of_int, prec, lt, le, up, down}
use Rattle.std.specs.Float.Ieee.Fits.{down_pos}
use Rattle.std.specs.Float.Ieee.Back.{round_whole}
use Rattle.std.specs.Float.Ieee.Exact.{HasValue}
use Rattle.std.specs.Float.Ieee.Order.{transfer}
use Rattle.numbers.specs.Whole.{whole}
use Rattle.numbers.specs.Limits.{max_exact}
use Rattle.numbers.specs.Laws.Kinds.{PlusFinite, plus_finite, value_plus, plus_finite_number}
use Rattle.numbers.specs.Laws.Order.{same_test, ltb_is_not_leb, lt_is_not_le, le→cross, cross→le}

-- x is a over c, and y is b over d
module _ (x y : Float) (a c b d : ℕ) (C : 0 < c) (D : 0 < d) (v : HasValue x false a c) (w : HasValue y false b d) where
  pub le_values : le x y ≡ nat_le (a * d) (b * c)
  le_values = go (value_plus x a c v) (value_plus y b d w) v w
    where
      go : {x y : Float} → PlusFinite x → PlusFinite y → HasValue x false a c → HasValue y false b d → le x y ≡ nat_le (a * d) (b * c)
      go (plus_finite m e) (plus_finite n g) v w =
          same_test (le (fin false m e) (fin false n g)) (nat_le (a * d) (b * c))
          (λ t. le→leb (a * d) (b * c) (transfer a b c d (m * up e) (n * up g) (down e) (down g) (down_pos e) (down_pos g) (sym v.1) (sym w.1) (le→cross m n e g t)))
          (λ t. cross→le m n e g (transfer (m * up e) (n * up g) (down e) (down g) a b c d C D v.1 w.1 (leb→le (a * d) (b * c) t)))

pub lt_values : (x y : Float) (a c b d : ℕ) → 0 < c → 0 < d → HasValue x false a c → HasValue y false b d → lt x y ≡ nat_lt (a * d) (b * c)
lt_values x y a c b d C D v w =
    lt_is_not_le (plus_finite_number (value_plus y b d w)) (plus_finite_number (value_plus x a c v))
    ∙ ap not (le_values y x b d a c D C w v)
    ∙ sym (ltb_is_not_leb (a * d) (b * c))

-- a whole number up to 2 ^ prec is a float exactly
pub whole_value_lem : (f : Format) (n : ℕ) → n ≤ 2 ^ prec f → HasValue (of_int f (pos n)) false n 1
unfolding of_int
whole_value_lem f n h = round_whole f false n h

pub whole_le : (n m : ℕ) → n ≤ max_exact → m ≤ max_exact → le (whole n) (whole m) ≡ nat_le n m
whole_le n m h k = le_values _ _ n 1 m 1 (lit< tt) (lit< tt) (whole_value_lem binary64 n h) (whole_value_lem binary64 m k) ∙ ap₂ leb (mul-one n) (mul-one m)

pub whole_lt : (n m : ℕ) → n ≤ max_exact → m ≤ max_exact → lt (whole n) (whole m) ≡ nat_lt n m
whole_lt n m h k = lt_values _ _ n 1 m 1 (lit< tt) (lit< tt) (whole_value_lem binary64 n h) (whole_value_lem binary64 m k) ∙ ap₂ ltb (mul-one n) (mul-one m)
