-- A rounding is the nearest value that fits: no other finite one, of either sign, is nearer to the fraction that was rounded.
use Rattle.std.specs.Prelude.{◌≡◌, ℕ, suc, ◌+◌, ◌-◌, ◌*◌, ◌/◌, ◌%◌, ◌^◌, ◌<◌, ◌≤◌, Bool, true, false, not, T, ◌⊎◌, nat_le, Float}
use Rattle.std.proofs.Common.{sym, ap, ap₂, ◌∙◌, subst, inl, inr, lt_irrefl, le_of_eq, le_of_lt, mul_comm, mul_assoc, mul-add, mul-pos, mul-le-mul_left, mul-le-mul_right, le_of_mul-le-mul_right, le-div_iff_mul-le, div-add-mod', mod-lt, arith, leb→le, eqb→eq, pow_pos, pow-add, pow_mono}
use Prim.Native.Nat.{compare, Ordering}
use Rattle.std.proofs.Math.Nat.{mul-sub, div-div-eq-div-mul}
use Rattle.std.proofs.Math.Dec.{is_le, compare_is_eq, nleb→lt}
use Rattle.std.specs.Float.{Format}
use Rattle.std.specs.Float.Ieee.{round, nearest, size, prec, low, up, down, fits}
use Rattle.std.specs.Float.Ieee.Digits.{size_reaches}
use Rattle.std.specs.Float.Ieee.Exact.{HasValue}
use Rattle.std.specs.Float.Ieee.Fits.{two, two-le_pos, nearest-le}
use Rattle.std.specs.Float.Ieee.Nearest.{nearest-ge}
use Rattle.std.specs.Float.Ieee.Order.{drop, kept}
use Rattle.std.specs.Float.Ieee.Positive.{num, den}
use Rattle.std.specs.Float.Ieee.Scale.{grid, finite, round_val, round_under}
use Rattle.numbers.specs.Instant.{sign_bit}
use Rattle.numbers.specs.Laws.Kinds.{Finite, finite_fin, PlusFinite, plus_finite}
use Rattle.numbers.specs.Laws.Signed.{over, under}
use Rattle.numbers.specs.Laws.Values.{fits_parts, place, restore}

-- |a - b|
abbrev pub gap : ℕ → ℕ → ℕ
gap a b = a - b + (b - a)

-- |x - a / c| of a finite x, times den x * c
abbrev pub distance : Float → ℕ → ℕ → ℕ
distance x a c = gap (over (sign_bit x) (num x) * c) (under (sign_bit x) (num x) * c + a * den x)

either : (a b : ℕ) → (a ≤ b) ⊎ (b < a)
either a b = go (nat_le a b) (leb→le a b) (nleb→lt a b)
  where
    go : (t : Bool) → (T t → a ≤ b) → (T (not t) → b < a) → (a ≤ b) ⊎ (b < a)
    go true h k = inl (h tt)
    go false h k = inr (k tt)

-- ---- a whole part w and a remainder r of b: the rounding stays at w only up to a half, and moves up only from a half on
stays : (w r b : ℕ) → nearest w (compare (r * 2) b) ≤ w → r * 2 ≤ b
stays w r b = go (compare (r * 2) b) (leb→le (r * 2) b)
  where
    go : (o : Ordering) → (T (is_le o) → r * 2 ≤ b) → nearest w o ≤ w → r * 2 ≤ b
    go Ordering.lt h l = h tt
    go Ordering.eq h l = h tt
    go Ordering.gt h l = absurd (lt_irrefl w l)

moves : (w r b : ℕ) → w < nearest w (compare (r * 2) b) → b ≤ r * 2
moves w r b = go (compare (r * 2) b) (nleb→lt (r * 2) b) (eqb→eq (r * 2) b)
  where
    go : (o : Ordering) → (T (not (is_le o)) → b < r * 2) → (T (compare_is_eq o) → r * 2 ≡ b) → w < nearest w o → b ≤ r * 2
    go Ordering.lt h e l = absurd (lt_irrefl w l)
    go Ordering.eq h e l = le_of_eq (sym (e tt))
    go Ordering.gt h e l = le_of_lt (h tt)

-- so of the multiples of u the one that q * u + r is rounded to is nearest, and what lies beyond them is no nearer
near : (q r u x z : ℕ) → r < u → q ≤ x → x ≤ suc q → (x ≤ q → r * 2 ≤ u) → (q < x → u ≤ r * 2) → (z ≤ q * u) ⊎ (suc q * u ≤ z)
    → gap (x * u) (q * u + r) ≤ gap z (q * u + r)
near q r u x z R l h stay move b =
    elim (either x q) [
      | inl g ↦
          let half = stay g in
          let e : x ≡ q = omega arith in
          rw e (elim b [ inl t ↦ omega arith | inr t ↦ omega arith ])
      | inr g ↦
          let half = move g in
          let e : x ≡ suc q = omega arith in
          rw e (elim b [ inl t ↦ omega arith | inr t ↦ omega arith ])
    ]

-- ---- a number of units w that is cut to p digits by k: no value of p digits lies between the two multiples of 2 ^ k around it
all_digits_lem : (p z j : ℕ) → 0 < p → j < z - p → p - 1 + (z - p) < z
all_digits_lem p z j P h = omega arith

room : (p j k : ℕ) → 0 < p → j < k → p + j ≤ p - 1 + k
room p j k P h = omega arith

around : (p w m j : ℕ) → 0 < p → m < 2 ^ p → let k = size w - p in (m * 2 ^ j ≤ w / 2 ^ k * 2 ^ k) ⊎ (suc (w / 2 ^ k) * 2 ^ k ≤ m * 2 ^ j)
around p w m j P M =
    let k = size w - p in
    let q = w / 2 ^ k in
    elim (either k j) [
      | inl h ↦
          let t = m * 2 ^ (j - k) in
          let e : m * 2 ^ j ≡ t * 2 ^ k = ap (λ (z : ℕ). m * z) (ap (λ (z : ℕ). 2 ^ z) (sym (restore k j h)) ∙ pow-add 2 (j - k) k) ∙ sym (mul_assoc m (2 ^ (j - k)) (2 ^ k)) in
          rw e (elim (either t q) [ inl g ↦ inl (mul-le-mul_right (2 ^ k) g) | inr g ↦ inr (mul-le-mul_right (2 ^ k) g) ])
      | inr h ↦
          let full : 2 ^ (p - 1) ≤ q = (le-div_iff_mul-le (pow_pos k)).1 (rw (← pow-add 2 (p - 1) k) (size_reaches w (p - 1 + k) (all_digits_lem p (size w) j P h))) in
          inl (omega (arith, mul-le-mul_right (2 ^ j) (le_of_lt M), pow-add 2 p j, pow_mono (room p j k P h), pow-add 2 (p - 1) k, mul-le-mul_right (2 ^ k) full))
    ]

times : (y q v c : ℕ) → (y ≤ q * v) ⊎ (suc q * v ≤ y) → (y * c ≤ q * (c * v)) ⊎ (suc q * (c * v) ≤ y * c)
times y q v c (inl h) = inl (omega (arith, mul-le-mul_right c h))
times y q v c (inr h) = inr (omega (arith, mul-le-mul_right c h))

-- what n / c units are rounded to is no further from it than any value of p digits
units_near : (p n c m j : ℕ) → 0 < p → 0 < c → m < 2 ^ p → gap (kept p n c * 2 ^ drop p n c * c) n ≤ gap (m * 2 ^ j * c) n
units_near p n c m j P C M =
    let k = drop p n c in
    let u = c * 2 ^ k in
    let q = n / u in
    let r = n % u in
    let o = compare (r * 2) u in
    let x = kept p n c in
    let y = m * 2 ^ j in
    let sides = times y q (2 ^ k) c (rw (div-div-eq-div-mul n c (2 ^ k)) at (around p (n / c) m j P M)) in
    subst (λ (t : ℕ). gap (x * 2 ^ k * c) t ≤ gap (y * c) t) (div-add-mod' n u)
    (rw (mul_assoc x (2 ^ k) c, mul_comm (2 ^ k) c)
    (near q r u x (y * c) (mod-lt n (mul-pos C (pow_pos k))) (nearest-ge q o) (nearest-le q o) (stays q r u) (moves q r u) sides))

-- ---- from units to values: x / D is G units, each 1 / L, and (v - w) / I is Y - Z of them
gap_mul : (k a b : ℕ) → k * gap a b ≡ gap (k * a) (k * b)
gap_mul k a b = mul-add k (a - b) (b - a) ∙ ap₂ (λ (y z : ℕ). y + z) (mul-sub k a b) (mul-sub k b a)

gap_scale : (k l a b c d : ℕ) → k * a ≡ l * c → k * b ≡ l * d → k * gap a b ≡ l * gap c d
gap_scale k l a b c d p q = gap_mul k a b ∙ ap₂ gap p q ∙ sym (gap_mul l c d)

scaled : (g h G H L D I : ℕ) → 0 < L → L * I * g ≡ D * I * G → L * D * h ≡ D * I * H → G ≤ H → g * I ≤ h * D
scaled g h G H L D I P p q l = le_of_mul-le-mul_right (omega (arith, mul-le-mul_left (D * I) l)) P

values : (x D G v w I Y Z a c L : ℕ) → 0 < L → x * L ≡ G * D → v * L ≡ Y * I → w * L ≡ Z * I → gap (G * c) (a * L) ≤ gap (Y * c) (Z * c + a * L)
    → gap (x * c) (0 * c + a * D) * I ≤ gap (v * c) (w * c + a * I) * D
values x D G v w I Y Z a c L P p q r l =
    scaled (gap (x * c) (0 * c + a * D)) (gap (v * c) (w * c + a * I)) (gap (G * c) (a * L)) (gap (Y * c) (Z * c + a * L)) L D I P
    (gap_scale (L * I) (D * I) (x * c) (0 * c + a * D) (G * c) (a * L) (omega (arith, ap (λ (z : ℕ). z * (I * c)) p)) (omega arith))
    (gap_scale (L * D) (D * I) (v * c) (w * c + a * I) (Y * c) (Z * c + a * L) (omega (arith, ap (λ (z : ℕ). z * (D * c)) q)) (omega (arith, ap (λ (z : ℕ). z * (D * c)) r))) l

signed_is : (s : Bool) (z L y I : ℕ) → z * L ≡ y * I → (over s z * L ≡ over s y * I) × (under s z * L ≡ under s y * I)
signed_is false z L y I h = (h, omega arith)
signed_is true z L y I h = (omega arith, h)

-- a number below 0 is further off than 0 is
signed_near : (s : Bool) (g y n c : ℕ) → g ≤ gap (y * c) n → g ≤ n → g ≤ gap (over s y * c) (under s y * c + n)
signed_near false g y n c h k = omega arith
signed_near true g y n c h k = omega arith

-- no finite value that fits is nearer to a / c than what a / c is rounded to, where that is finite
pub round_nearest : (f : Format) (a c : ℕ) {y : Float} → 0 < c → PlusFinite (round f false a c) → Finite y → T (fits f y)
    → distance (round f false a c) a c * den y ≤ distance y a c * den (round f false a c)
round_nearest f a c C r q h = go r (round_val f a c (round_under f a c (plus_is_finite r))) q h
  where
    plus_is_finite : {x : Float} → PlusFinite x → T (finite x)
    plus_is_finite (plus_finite m e) = tt

    go : {x y : Float} → PlusFinite x → HasValue x false (grid f a c) (2 ^ low f) → Finite y → T (fits f y) → distance x a c * den y ≤ distance y a c * den x
    go (plus_finite m e) v (finite_fin s o i) h =
        let L = 2 ^ low f in
        let G = grid f a c in
        let parts = fits_parts f s o i h in
        let at = place f i parts.fine in
        let Y = o * 2 ^ at.0 in
        let signed = signed_is s (o * up i) L Y (down i) (omega (arith, ap (λ (z : ℕ). o * z) at.1)) in
        let P = two-le_pos (prec f) (two f) in
        let zero_near : gap (G * c) (a * L) ≤ a * L = omega (arith, units_near (prec f) (a * L) c 0 0 P C (pow_pos (prec f))) in
        values (m * up e) (down e) G (over s (o * up i)) (under s (o * up i)) (down i) (over s Y) (under s Y) a c L (pow_pos (low f)) v.1
        signed.0 signed.1
        (signed_near s (gap (G * c) (a * L)) Y (a * L) c (units_near (prec f) (a * L) c o at.0 P C parts.digits) zero_near)
