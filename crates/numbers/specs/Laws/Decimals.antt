-- A decimal's value is its fraction, rounded once: the nearest float, finite with a clear sign bit, and not above a whole number that its digits are not above.
use Rattle.std.specs.Prelude.{◌≡◌, ℕ, ◌*◌, ◌^◌, ◌<◌, ◌≤◌, true, false, not, T, pos, refl, Float}
use Rattle.std.proofs.Common.{sym, ap, ◌∙◌, le_trans, mul-pos, mul-le-mul, arith, ltb→lt, lit<, lit≤}
use Rattle.std.proofs.Math.Bool.{not-not}
use Rattle.std.proofs.Math.Nat.{one-le-pow, pow-le-pow_right}
use Rattle.std.specs.Float.{fin, binary64}
use Rattle.std.specs.Float.Ieee.{round, div, of_int, lt, le, up, down, fits}
use Rattle.std.specs.Float.Ieee.Bits.{is_true}
use Rattle.std.specs.Float.Ieee.Exact.{HasValue}
use Rattle.std.specs.Float.Ieee.Fits.{up_pos, down_pos}
use Rattle.std.specs.Float.Ieee.Order.{round_mono}
use Rattle.std.specs.Float.Ieee.Positive.{den, positive_of_value}
use Rattle.std.specs.Float.Ieee.Scale.{round_same}
use Rattle.numbers.specs.Whole.{whole}
use Rattle.numbers.specs.Limits.{max_exact}
use Rattle.numbers.specs.Digits.{decimal_value}
use Rattle.numbers.specs.Laws.Kinds.{Number, Finite, finite_fin, PlusFinite, plus_finite, value_plus, plus_finite_number}
use Rattle.numbers.specs.Laws.NotNan.{div_fin, round_plus}
use Rattle.numbers.specs.Laws.Zero.{nought_least}
use Rattle.numbers.specs.Laws.Order.{lt_is_not_le}
use Rattle.numbers.specs.Laws.Whole.{whole_value_lem}
use Rattle.numbers.specs.Laws.Products.{finite_below}
use Rattle.numbers.specs.Laws.Bounded.{nought, whole_bounded}
use Rattle.numbers.specs.Laws.Nearest.{distance, round_nearest}

-- a quotient of whole numbers up to 2 ^ 53 is their fraction, rounded once
pub whole_div : (n d : ℕ) → n ≤ max_exact → d ≤ max_exact → 0 < d → div binary64 (whole n) (whole d) ≡ round binary64 false n d
whole_div n d h k D =
    let v = whole_value_lem binary64 n h in
    let w = whole_value_lem binary64 d k in
    go (value_plus _ n 1 v) (value_plus _ d 1 w) v w
  where
    cross : (M B E G : ℕ) → M * 1 ≡ n * E → B * 1 ≡ d * G → M * G * d ≡ n * (B * E)
    cross M B E G p q = omega (arith, ap (λ (z : ℕ). z * (G * d)) p, ap (λ (z : ℕ). z * (n * E)) q)

    go : {x y : Float} → PlusFinite x → PlusFinite y → HasValue x false n 1 → HasValue y false d 1 → div binary64 x y ≡ round binary64 false n d
    go (plus_finite m e) (plus_finite b g) v w =
        let B = ltb→lt 0 b (positive_of_value (fin false b g) d 1 w D) in
        div_fin binary64 false false m b e g B
        ∙ round_same binary64 false _ _ n d (mul-pos (mul-pos B (up_pos g)) (down_pos e)) D (cross (m * up e) (b * up g) (down e) (down g) v.1 w.1)

ten_pos : (k : ℕ) → 0 < 10 ^ k
ten_pos k = one-le-pow k 10 (lit< tt)

-- a decimal's value is the fraction n / 10 ^ k, rounded once
pub decimal_rounded : (n k : ℕ) → n ≤ max_exact → k ≤ 15 → decimal_value n k ≡ round binary64 false n (10 ^ k)
unfolding decimal_value
decimal_rounded n k h l = whole_div n (10 ^ k) h (le_trans (pow-le-pow_right (lit< tt) l) (lit≤ tt)) (ten_pos k)

-- it is not above a whole number that n is not above
pub decimal_below : (n m k : ℕ) → n ≤ m → m ≤ max_exact → k ≤ 15 → T (le (decimal_value n k) (whole m))
unfolding of_int
decimal_below n m k h j l = rw (decimal_rounded n k (le_trans h j) l) (round_mono binary64 n (10 ^ k) m 1 (ten_pos k) (lit< tt) (mul-le-mul h (ten_pos k)))

-- it is finite, and its sign bit is clear
pub decimal_clear : (n k : ℕ) → n ≤ max_exact → k ≤ 15 → PlusFinite (decimal_value n k)
unfolding of_int
decimal_clear n k h l = finite_below (rw (decimal_rounded n k h l) (round_plus binary64 n (10 ^ k))) (finite_fin false 1 (pos 53)) (decimal_below n max_exact k h (lit≤ tt) l)

-- no finite float y, of either sign, is nearer to n / 10 ^ k: |decimal_value n k - n / 10 ^ k| ≤ |y - n / 10 ^ k|, both sides times 10 ^ k and the denominators of the two floats
pub decimal_nearest : (n k : ℕ) {y : Float} → n ≤ max_exact → k ≤ 15 → Finite y → T (fits binary64 y)
    → distance (decimal_value n k) n (10 ^ k) * den y ≤ distance y n (10 ^ k) * den (decimal_value n k)
decimal_nearest n k h l q f =
    rw (decimal_rounded n k h l) (round_nearest binary64 n (10 ^ k) (ten_pos k) (rw (decimal_rounded n k h l) at (decimal_clear n k h l)) q f)

-- a decimal of at most fifteen digits, as a time is, lies between 0 and 999999999999999
pub decimal_time : (n k : ℕ) → n ≤ 999999999999999 → k ≤ 15 → (le nought (decimal_value n k) ≡ true) × (le (decimal_value n k) (whole 999999999999999) ≡ true)
decimal_time n k h l = (is_true _ (nought_least (decimal_clear n k (omega arith) l)), is_true _ (decimal_below n _ k (omega arith) (lit≤ tt) l))

-- a number that 1 is not below is at most 1
pub probability_within : (x : Float) → Number x → lt (whole 1) x ≡ false → le x (whole 1) ≡ true
probability_within x p h = sym (not-not (le x (whole 1))) ∙ ap not (sym (lt_is_not_le p (plus_finite_number (whole_bounded 1 (lit≤ tt)).clear)) ∙ h)

-- the whole number 0 as a float is +0
pub whole_zero : whole 0 ≡ nought
unfolding of_int
whole_zero = refl
