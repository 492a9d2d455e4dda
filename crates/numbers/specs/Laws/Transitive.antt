-- The order of numbers is transitive, whatever their signs, infinities too.
use Rattle.std.specs.Prelude.{◌≡◌, ℕ, ◌+◌, ◌*◌, ◌<◌, ◌≤◌, Bool, true, false, T, ℤ, ◌==◌, refl, Float}
use Rattle.std.proofs.Common.{sym, zero-mul, mul-le-mul_right, le_of_mul-le-mul_right, arith}
use Rattle.std.specs.Float.{inf, fin}
use Rattle.std.specs.Float.Ieee.{le, up, down}
use Rattle.std.specs.Float.Ieee.Bits.{is_true}
use Rattle.std.specs.Float.Ieee.Fits.{down_pos, eq→eqb}
use Rattle.numbers.specs.Laws.Kinds.{Number, number_inf, number_fin}
use Rattle.numbers.specs.Laws.Order.{cross→le}
use Rattle.numbers.specs.Laws.Magnitude.{le_neg, minus_le_plus}
use Rattle.numbers.specs.Laws.Signed.{over, under, SignedLe, le→signed}

-- signed fractions in this order are floats in this order
signed→le : (s t : Bool) (m n : ℕ) (e g : ℤ) → SignedLe s (m * up e * down g) t (n * up g * down e) → T (le (fin s m e) (fin t n g))
unfolding le
signed→le false false m n e g h = cross→le m n e g (omega (arith, h))
signed→le true true m n e g h = rw (le_neg n m g e) (cross→le n m g e (omega (arith, h)))
signed→le true false m n e g h = minus_le_plus m n e g
signed→le false true m n e g h =
    let a = m * up e * down g in
    let b = n * up g * down e in
    rw (is_true (a == b) (eq→eqb {a = a} {b = b} (omega (arith, h))), is_true (a == 0) (eq→eqb {a = a} {b = 0} (omega (arith, h)))) tt

-- a / p ≤ b / q and b / q ≤ c / r, where each is what it has above 0 less what it has below
fractions_trans : (a a' b b' c c' p q r : ℕ) → 0 < q → a * q + b' * p ≤ b * p + a' * q → b * r + c' * q ≤ c * q + b' * r → a * r + c' * p ≤ c * p + a' * r
fractions_trans a a' b b' c c' p q r Q h k = le_of_mul-le-mul_right (omega (arith, mul-le-mul_right r h, mul-le-mul_right p k)) Q

over_scale : (s : Bool) (n d : ℕ) → over s (n * d) ≡ over s n * d
over_scale true n d = sym (zero-mul d)
over_scale false n d = refl

under_scale : (s : Bool) (n d : ℕ) → under s (n * d) ≡ under s n * d
under_scale true n d = refl
under_scale false n d = sym (zero-mul d)

signed_trans : (s t u : Bool) (a b c p q r : ℕ) → 0 < q → SignedLe s (a * q) t (b * p) → SignedLe t (b * r) u (c * q) → SignedLe s (a * r) u (c * p)
signed_trans s t u a b c p q r Q h k =
    rw (over_scale s a r, under_scale u c p, over_scale u c p, under_scale s a r)
    (fractions_trans (over s a) (under s a) (over t b) (under t b) (over u c) (under u c) p q r Q
    (rw (over_scale s a q, under_scale t b p, over_scale t b p, under_scale s a q) at h)
    (rw (over_scale t b r, under_scale u c q, over_scale u c q, under_scale t b r) at k))

-- no number is below -∞
above_bottom : {x : Float} → Number x → T (le (inf true) x)
unfolding le
above_bottom (number_inf true) = tt
above_bottom (number_inf false) = tt
above_bottom (number_fin s m e) = tt

pub le_trans : {x y z : Float} → Number x → Number y → Number z → T (le x y) → T (le y z) → T (le x z)
unfolding le
le_trans (number_inf true) ny nz h k = above_bottom nz
le_trans (number_inf false) (number_inf true) nz h k = absurd h
le_trans (number_inf false) (number_inf false) nz h k = k
le_trans (number_inf false) (number_fin t n g) nz h k = absurd h
le_trans (number_fin s m e) (number_inf true) nz h k = absurd h
le_trans (number_fin s m e) (number_inf false) (number_inf true) h k = absurd k
le_trans (number_fin s m e) (number_inf false) (number_inf false) h k = tt
le_trans (number_fin s m e) (number_inf false) (number_fin u o i) h k = absurd k
le_trans (number_fin s m e) (number_fin t n g) (number_inf true) h k = absurd k
le_trans (number_fin s m e) (number_fin t n g) (number_inf false) h k = tt
le_trans (number_fin s m e) (number_fin t n g) (number_fin u o i) h k =
    signed→le s u m o e i (signed_trans s t u (m * up e) (n * up g) (o * up i) (down e) (down g) (down i) (down_pos g) (le→signed s t m n e g h) (le→signed t u n o g i k))
