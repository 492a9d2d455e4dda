-- The sign of a rounding does not bear on its size, and what is left of a value is not above it.
use Rattle.std.specs.Prelude.{◌≡◌, ℕ, zero, suc, ◌+◌, ◌-◌, ◌*◌, ◌^◌, Bool, true, false, cond, not, T, ℤ, ◌==◌, nat_lt, refl, Float}
use Rattle.std.proofs.Common.{sym, ap, ◌∙◌, subst, mul-pos, mul-le-mul_right, sub-le, arith, eqb→eq}
use Rattle.std.proofs.Math.Bool.{not-not}
use Rattle.std.specs.Float.{fin, Format}
use Rattle.std.specs.Float.Ieee.{round, units, odd, neg, lt, le, up, down, fits, low, emax}
use Rattle.std.specs.Float.Ieee.Fits.{down_pos, round_is, eq→eqb}
use Rattle.std.specs.Float.Ieee.Order.{round_mono}
use Rattle.numbers.specs.Laws.Kinds.{number_fin}
use Rattle.numbers.specs.Laws.Order.{same_test, lt_is_not_le}
use Rattle.numbers.specs.Laws.Values.{round_own}

cond_neg : (b : Bool) (x y : Float) → cond b (neg x) (neg y) ≡ neg (cond b x y)
cond_neg true x y = refl
cond_neg false x y = refl

units_neg : (f : Format) (q k : ℕ) → units f true q k ≡ neg (units f false q k)
unfolding units odd neg
units_neg f zero k = cond_neg (nat_lt (0 * 2 ^ k) (2 ^ (low f + suc (emax f)))) _ _
units_neg f (suc q) k = cond_neg (nat_lt (suc q * 2 ^ k) (2 ^ (low f + suc (emax f)))) _ _

-- the rounding of a negative number is the negative of its size's
pub round_neg : (f : Format) (a c : ℕ) → round f true a c ≡ neg (round f false a c)
round_neg f a c = round_is f true a c ∙ units_neg f _ _ ∙ ap neg (sym (round_is f false a c))

-- of two negative numbers the order is the other way round
pub le_neg : (m n : ℕ) (e g : ℤ) → le (fin true n g) (fin true m e) ≡ le (fin false m e) (fin false n g)
unfolding le
le_neg m n e g =
    let a = m * up e * down g in
    let b = n * up g * down e in
    rw (same_test (b == a) (a == b) (λ t. eq→eqb (sym (eqb→eq b a t))) (λ t. eq→eqb (sym (eqb→eq a b t))))

-- a negative number is not above one with a clear sign bit
pub minus_le_plus : (m n : ℕ) (e g : ℤ) → T (le (fin true m e) (fin false n g))
unfolding lt
minus_le_plus m n e g = subst T (ap not (lt_is_not_le (number_fin true m e) (number_fin false n g)) ∙ not-not (le (fin true m e) (fin false n g))) tt

-- what is left of a value that fits is not above it
pub left_below : (f : Format) (m : ℕ) (e g : ℤ) (b : ℕ) → T (fits f (fin false m e)) → T (le (round f false (m * up e * down g - b) (down e * down g)) (fin false m e))
left_below f m e g b h =
    let a = m * up e * down g in
    rw (← round_own f false m e h)
    (round_mono f (a - b) (down e * down g) (m * up e) (down e) (mul-pos (down_pos e) (down_pos g)) (down_pos e) (omega (arith, mul-le-mul_right (down e) (sub-le a b))))
