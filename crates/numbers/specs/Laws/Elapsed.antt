-- The time since an earlier instant, at least 0, is from 0 to 2 ^ 53 and never -0: a difference of two values that fit is not rounded to zero.
use Rattle.std.specs.Prelude.{◌≡◌, ℕ, suc, ◌+◌, ◌-◌, ◌*◌, ◌^◌, ◌<◌, ◌≤◌, true, false, T, ℤ, pos, negsuc, nat_lt, refl, Float}
use Rattle.std.proofs.Common.{◌∙◌, mul-pos, mul_comm, one-mul, arith, ltb→lt, lt→ltb, pow_pos, pow-add}
use Rattle.std.specs.Int.{◌∣◌}
use Rattle.std.proofs.Math.Nat.{mul-sub, sub-pos_iff_lt, le_of_dvd, one-dvd, dvd-sub, dvd-mul_left, mul-dvd-mul}
use Rattle.std.specs.Float.{fin, binary64}
use Rattle.std.specs.Float.Ieee.{round, add, sum, sub, neg, lt, le, up, down, fits}
use Rattle.std.specs.Float.Ieee.Fits.{down_pos}
use Rattle.std.specs.Float.Ieee.Order.{round_mono}
use Rattle.std.specs.Float.Ieee.Positive.{first_pos}
use Rattle.std.specs.Float.Ieee.Bits.{is_true}
use Rattle.numbers.specs.Extremes.{maximum_of}
use Rattle.numbers.specs.Instant.{last_instant}
use Rattle.numbers.specs.Laws.Kinds.{Number, number_fin, finite_fin, Plus, plus_inf, plus_fin, PlusFinite, plus_finite, plus_number}
use Rattle.numbers.specs.Laws.NotNan.{cond_when, round_number, round_plus}
use Rattle.numbers.specs.Laws.Order.{le→cross}
use Rattle.numbers.specs.Laws.Transitive.{le_trans}
use Rattle.numbers.specs.Laws.Extremes.{chosen_has, chosen_number}
use Rattle.numbers.specs.Laws.Values.{fits_parts, low_exp, restore}
use Rattle.numbers.specs.Laws.Products.{finite_below}
use Rattle.numbers.specs.Laws.Magnitude.{round_neg, left_below}
use Rattle.numbers.specs.Laws.Bounded.{Bounded, nought, nought_bounded}

-- a value that fits is a whole multiple of the format's smallest one
multiple : (l : ℕ) (e : ℤ) → down e ≤ 2 ^ l → down e ∣ 2 ^ l
multiple l (pos k) h = one-dvd (2 ^ l)
multiple l (negsuc k) h = let i = suc k in rw (← pow-add 2 (l - i) i, restore i l (low_exp i l h)) at (dvd-mul_left (2 ^ i) (2 ^ (l - i)))

fits_multiple : (m : ℕ) (e : ℤ) → T (fits binary64 (fin false m e)) → down e ∣ 2 ^ 1074
fits_multiple m e h = multiple 1074 e (fits_parts binary64 false m e h).fine

-- so is a difference of two: above 0, it is at least one of them
gap : (p q D G L : ℕ) → D ∣ L → G ∣ L → 0 < L → p * G < q * D → 1 * (D * G) ≤ (q * D - p * G) * L
gap p q D G L d g l h =
    rw (one-mul (D * G))
    (le_of_dvd (mul-pos (sub-pos_iff_lt.1 h) l)
    (rw (mul_comm (q * D - p * G) L, mul-sub L (q * D) (p * G)) (dvd-sub (D * G) (rw (mul_comm L (q * D)) (mul-dvd-mul D G (dvd-mul_left D q) g)) (mul-dvd-mul D G d (dvd-mul_left G p)))))

abbrev smallest : Float
smallest = fin false 1 (negsuc 1073)

smallest_is : round binary64 false 1 (2 ^ 1074) ≡ smallest
unfolding round
smallest_is = refl

-- a positive difference of two values that fit is not below the smallest positive value
not_lost : (m n : ℕ) (e g : ℤ) → T (fits binary64 (fin false m e)) → T (fits binary64 (fin false n g)) → m * up e * down g < n * up g * down e
    → T (le smallest (round binary64 false (n * up g * down e - m * up e * down g) (down e * down g)))
not_lost m n e g h k l =
    rw (← smallest_is)
    (round_mono binary64 1 (2 ^ 1074) (n * up g * down e - m * up e * down g) (down e * down g) (pow_pos 1074) (mul-pos (down_pos e) (down_pos g))
    (gap (m * up e) (n * up g) (down e) (down g) (2 ^ 1074) (fits_multiple m e h) (fits_multiple n g k) (pow_pos 1074) l))

-- the negative of a positive value is below zero
minus_below : {x : Float} → Plus x → T (le smallest x) → T (lt (neg x) nought)
unfolding neg lt
minus_below plus_inf h = tt
minus_below (plus_fin m e) h = lt→ltb 0 (m * up e * 1 + 0 * 1 * down e) (some (m * up e) (down e) (2 ^ 1074) (down_pos e) (le→cross 1 m (negsuc 1073) e h))
  where
    some : (a d k : ℕ) → 0 < d → 1 * 1 * d ≤ a * k → 0 < a * 1 + 0 * 1 * d
    some a d k h l = omega (arith, first_pos a k (omega arith))

-- of a number below 0 and 0 the maximum is 0
nought_above : {x : Float} → Number x → T (lt x nought) → maximum_of x nought ≡ nought
nought_above {x} p h = chosen_number (lt x nought) p (number_fin false 0 (pos 0)) ∙ rw (is_true (lt x nought) h)

since : {x y : Float} → T (fits binary64 x) → T (fits binary64 y) → PlusFinite x → PlusFinite y → T (le x last_instant) → Bounded (maximum_of (sub binary64 x y) nought)
unfolding sub add sum neg
since h k (plus_finite m e) (plus_finite n g) s =
    let a = m * up e * down g in
    let b = n * up g * down e in
    let c = down e * down g in
    let under = left_below binary64 m e g b h in
    cond_when (λ (z : Float). Bounded (maximum_of z nought)) (nat_lt a b)
    (λ t.
    let below : T (lt (round binary64 true (b - a) c) nought) = rw (round_neg binary64 (b - a) c) (minus_below (round_plus binary64 (b - a) c) (not_lost m n e g h k (ltb→lt a b t))) in
    rw (nought_above (round_number binary64 true (b - a) c) below) nought_bounded)
    (chosen_has Bounded (lt (round binary64 false (a - b) c) nought) (record {
      clear = finite_below (round_plus binary64 (a - b) c) (finite_fin false m e) under;
      small = le_trans (plus_number (round_plus binary64 (a - b) c)) (number_fin false m e) (number_fin false 1 (pos 53)) under s;
    }) nought_bounded)

pub elapsed_bounded : {now last : Float} → T (fits binary64 now) → T (fits binary64 last) → Bounded now → Bounded last → Bounded (maximum_of (sub binary64 now last) nought)
elapsed_bounded h k p q = since h k p.clear q.clear p.small
