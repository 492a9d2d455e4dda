-- A number that is not below 0 has a clear sign bit or is -0, and -0 adds nothing.
use Rattle.std.specs.Prelude.{◌≡◌, ℕ, zero, suc, ◌-◌, ◌*◌, true, false, T, ℤ, pos, nat_lt, refl, Float}
use Rattle.std.proofs.Common.{◌∙◌, mul-pos, zero-mul, arith, ltb→lt}
use Rattle.std.proofs.Math.Nat.{sub-zero}
use Rattle.std.proofs.Math.Dec.{not_T}
use Rattle.std.specs.Float.{nan, inf, fin, Format}
use Rattle.std.specs.Float.Ieee.{add, sum, lt, le, up, down, fits}
use Rattle.std.specs.Float.Ieee.Bits.{cond_no}
use Rattle.std.specs.Float.Ieee.Fits.{down_pos, up_pos}
use Rattle.std.specs.Float.Ieee.Scale.{round_same}
use Rattle.numbers.specs.Laws.Kinds.{Plus, plus_inf, plus_fin, PlusFinite, plus_finite, plus_number}
use Rattle.numbers.specs.Laws.NotNan.{add_plus}
use Rattle.numbers.specs.Laws.Order.{cross→le}
use Rattle.numbers.specs.Laws.Extremes.{le_self}
use Rattle.numbers.specs.Laws.Values.{round_own}
use Rattle.numbers.specs.Laws.Signed.{le→signed}
use Rattle.numbers.specs.Laws.Sums.{add_not_below_plus}
use Rattle.numbers.specs.Laws.Bounded.{nought}

-- a number that is not below 0
pub data NotBelow : Float → Type 0 where
  not_below_plus : {x : Float} → Plus x → NotBelow x
  minus_zero : (e : ℤ) → NotBelow (fin true 0 e)

pub not_below : (x : Float) → T (le nought x) → NotBelow x
unfolding le
not_below nan h = absurd h
not_below (inf true) h = absurd h
not_below (inf false) h = not_below_plus plus_inf
not_below (fin true zero e) h = minus_zero e
not_below (fin true (suc m) e) h = absurd (omega (arith, le→signed false true 0 (suc m) (pos 0) e h, up_pos e))
not_below (fin false m e) h = not_below_plus (plus_fin m e)

-- 0 is the least number with a clear sign bit
pub nought_least : {x : Float} → PlusFinite x → T (le nought x)
nought_least (plus_finite m e) = cross→le 0 m (pos 0) e (omega arith)

-- what is above 0 has a clear sign bit
pub above_zero : (x : Float) → T (lt nought x) → Plus x
unfolding lt
above_zero nan h = absurd h
above_zero (inf true) h = absurd h
above_zero (inf false) h = plus_inf
above_zero (fin true m e) h = absurd h
above_zero (fin false m e) h = plus_fin m e

pub add_minus_zero : (f : Format) {x : Float} (g : ℤ) → T (fits f x) → Plus x → add f x (fin true 0 g) ≡ x
unfolding add sum
add_minus_zero f g h plus_inf = refl
add_minus_zero f g h (plus_fin m e) =
    let a = m * up e * down g in
    let b = 0 * up g * down e in
    cond_no (nat_lt a b) _ _ (not_T (nat_lt a b) (λ t. omega (arith, ltb→lt a b t)))
    ∙ round_same f false (a - b) (down e * down g) (m * up e) (down e) (mul-pos (down_pos e) (down_pos g)) (down_pos e) (untaken (m * up e) (up g) (down e) (down g))
    ∙ round_own f false m e h
  where
    untaken : (a u d g : ℕ) → (a * g - 0 * u * d) * d ≡ a * (d * g)
    untaken a u d g = simp (zero-mul, sub-zero) (omega arith)

-- a number with a clear sign bit has one still and is not less, when what is not below 0 is added to it
pub add_clear : (f : Format) {x y : Float} → T (fits f x) → Plus x → NotBelow y → Plus (add f x y) × T (le x (add f x y))
add_clear f h p (not_below_plus q) = (add_plus f p q, add_not_below_plus f h p q)
add_clear f h p (minus_zero g) = rw (add_minus_zero f g h p) (p, le_self (plus_number p))
