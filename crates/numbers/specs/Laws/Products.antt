-- Products and quotients of finite numbers with a clear sign bit: they grow with their operands.
use Rattle.std.specs.Prelude.{◌≡◌, ℕ, ◌*◌, ◌<◌, ◌≤◌, false, T, ℤ, Float}
use Rattle.std.proofs.Common.{ap₂, ◌∙◌, mul-pos, mul-le-mul, mul-le-mul_right, arith}
use Rattle.std.proofs.Math.Nat.{mul-mul-mul_comm}
use Rattle.std.specs.Float.{fin, Format}
use Rattle.std.specs.Float.Ieee.{round, mul, div, le, up, down}
use Rattle.std.specs.Float.Ieee.Exact.{HasValue}
use Rattle.std.specs.Float.Ieee.Fits.{down_pos, up_pos}
use Rattle.std.specs.Float.Ieee.Order.{round_mono}
use Rattle.std.specs.Float.Ieee.Scale.{round_same}
use Rattle.numbers.specs.Laws.Kinds.{Finite, finite_fin, Plus, plus_inf, plus_fin, PlusFinite, plus_finite}
use Rattle.numbers.specs.Laws.NotNan.{div_fin}
use Rattle.numbers.specs.Laws.Order.{le→cross}

-- a number with a clear sign bit that is not above a finite one is finite
pub finite_below : {x y : Float} → Plus x → Finite y → T (le x y) → PlusFinite x
unfolding le
finite_below plus_inf (finite_fin t n g) h = absurd h
finite_below (plus_fin m e) q h = plus_finite m e

-- a product is the product of the values, rounded once
pub mul_values : (f : Format) {x y : Float} (a b c d : ℕ) → PlusFinite x → PlusFinite y → 0 < c → 0 < d → HasValue x false a c → HasValue y false b d
    → mul f x y ≡ round f false (a * b) (c * d)
unfolding mul
mul_values f a b c d (plus_finite m e) (plus_finite n g) C D v w =
    round_same f false (m * up e * (n * up g)) (down e * down g) (a * b) (c * d) (mul-pos (down_pos e) (down_pos g)) (mul-pos C D)
    (mul-mul-mul_comm (m * up e) (n * up g) c d ∙ ap₂ (λ (y z : ℕ). y * z) v.1 w.1 ∙ mul-mul-mul_comm a (down e) b (down g))

products : (a b c d D G E H : ℕ) → a * E ≤ c * D → b * H ≤ d * G → a * b * (E * H) ≤ c * d * (D * G)
products a b c d D G E H h k = rw (mul-mul-mul_comm a b E H, mul-mul-mul_comm c d D G) (mul-le-mul h k)

-- a product grows with both factors
pub mul_mono : (f : Format) {x y u v : Float} → PlusFinite x → PlusFinite y → PlusFinite u → PlusFinite v → T (le x u) → T (le y v) → T (le (mul f x y) (mul f u v))
unfolding mul
mul_mono f (plus_finite m e) (plus_finite n g) (plus_finite o i) (plus_finite w j) h k =
    round_mono f _ _ _ _ (mul-pos (down_pos e) (down_pos g)) (mul-pos (down_pos i) (down_pos j))
    (products (m * up e) (n * up g) (o * up i) (w * up j) (down e) (down g) (down i) (down j) (le→cross m o e i h) (le→cross n w g j k))

quotients : (a c D E r w : ℕ) → a * E ≤ c * D → a * r * (w * E) ≤ c * r * (w * D)
quotients a c D E r w h = omega (arith, mul-le-mul_right (r * w) h)

-- a quotient by a divisor above 0 grows with the dividend
pub div_mono : (f : Format) {x u : Float} (n : ℕ) (g : ℤ) → PlusFinite x → PlusFinite u → 0 < n → T (le x u) → T (le (div f x (fin false n g)) (div f u (fin false n g)))
div_mono f n g (plus_finite m e) (plus_finite o i) h l =
    let d = mul-pos h (up_pos g) in
    rw (div_fin f false false m n e g h, div_fin f false false o n i g h)
    (round_mono f _ _ _ _ (mul-pos d (down_pos e)) (mul-pos d (down_pos i)) (quotients (m * up e) (o * up i) (down e) (down i) (down g) (n * up g) (le→cross m o e i l)))
