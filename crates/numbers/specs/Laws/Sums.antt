-- A sum grows with both summands, and a sum with a number that is not below 0 is not below the other summand, whatever is rounded.
use Rattle.std.specs.Prelude.{◌≡◌, ℕ, ◌+◌, ◌*◌, ◌≤◌, Bool, true, false, T, refl, Float}
use Rattle.std.proofs.Common.{sym, ap, subst, mul-pos, zero-mul, mul_comm, mul-le-mul_right, arith}
use Rattle.std.specs.Float.{Format}
use Rattle.std.specs.Float.Ieee.{round, add, le, up, down, fits}
use Rattle.std.specs.Float.Ieee.Fits.{down_pos}
use Rattle.numbers.specs.Laws.Kinds.{Finite, finite_fin, Plus, plus_inf, plus_fin}
use Rattle.numbers.specs.Laws.NotNan.{add_plus}
use Rattle.numbers.specs.Laws.Order.{le_inf}
use Rattle.numbers.specs.Laws.Values.{round_own}
use Rattle.numbers.specs.Laws.Signed.{over, under, le→signed, round_signed, summed}

over_mul : (s : Bool) (n k : ℕ) → over s (n * k) ≡ over s n * k
over_mul true n k = sym (zero-mul k)
over_mul false n k = refl

under_mul : (s : Bool) (n k : ℕ) → under s (n * k) ≡ under s n * k
under_mul true n k = refl
under_mul false n k = sym (zero-mul k)

-- an order, and a sum, of fractions as what they have above and below 0, times a factor
scaled_le : (a b c d I E k : ℕ) → a * I + b * E ≤ c * E + d * I → a * I * k + b * E * k ≤ c * E * k + d * I * k
scaled_le a b c d I E k h = omega (arith, mul-le-mul_right k h)

scaled_sum : (a b c d e f G E I J : ℕ) → a + b * G + c * E ≡ d + e * G + f * E → a * (I * J) + b * I * (G * J) + c * J * (E * I) ≡ d * (I * J) + e * I * (G * J) + f * J * (E * I)
scaled_sum a b c d e f G E I J h = omega (arith, ap (λ (n : ℕ). n * (I * J)) h)

-- the differences a - a' and b - b' add up to z - z', and c - c' and d - d' to w - w'
linear : (a a' b b' c c' d d' z z' w w' : ℕ) → a + c' ≤ c + a' → b + d' ≤ d + b' → z + a' + b' ≡ z' + a + b → w + c' + d' ≡ w' + c + d → z + w' ≤ w + z'
linear a a' b b' c c' d d' z z' w w' h k p q = omega arith

-- x, y, u, v are fractions over E, G, I, J, z is the sum over E G, and w that over I J
grown : (xo xu yo yu uo uu vo vu zo zu wo wu E G I J : ℕ) → xo * I + uu * E ≤ uo * E + xu * I → yo * J + vu * G ≤ vo * G + yu * J
    → zo + xu * G + yu * E ≡ zu + xo * G + yo * E → wo + uu * J + vu * I ≡ wu + uo * J + vo * I → zo * (I * J) + wu * (E * G) ≤ wo * (E * G) + zu * (I * J)
grown xo xu yo yu uo uu vo vu zo zu wo wu E G I J h k p q =
    linear (xo * I * (G * J)) (xu * I * (G * J)) (yo * J * (E * I)) (yu * J * (E * I)) (uo * E * (G * J)) (uu * E * (G * J)) (vo * G * (E * I)) (vu * G * (E * I)) _ _ _ _
    (scaled_le xo uu uo xu I E (G * J) h) (scaled_le yo vu vo yu J G (E * I) k)
    (scaled_sum zo xu yu zu xo yo G E I J p)
    (rw (mul_comm J G, mul_comm I E) at (scaled_sum wo uu vu wu uo vo J I E G q))

pub add_mono : (f : Format) {x y u v : Float} → Finite x → Finite y → Finite u → Finite v → T (le x u) → T (le y v) → T (le (add f x y) (add f u v))
unfolding add
add_mono f (finite_fin s m e) (finite_fin t n g) (finite_fin p o i) (finite_fin q w j) h k =
    let first = summed f s (m * up e * down g) t (n * up g * down e) (down e * down g) in
    let second = summed f p (o * up i * down j) q (w * up j * down i) (down i * down j) in
    let a = first.sign in
    let b = second.sign in
    let z = first.size in
    let y = second.size in
    rw (first.is, second.is)
    (round_signed f a b z y (down e * down g) (down i * down j) (mul-pos (down_pos e) (down_pos g)) (mul-pos (down_pos i) (down_pos j))
    (simp (over_mul, under_mul)
    (grown _ _ _ _ _ _ _ _ (over a z) (under a z) (over b y) (under b y) (down e) (down g) (down i) (down j)
    (simp (over_mul, under_mul) at (le→signed s p m o e i h))
    (simp (over_mul, under_mul) at (le→signed t q n w g j k))
    (simp (over_mul, under_mul) at first.value)
    (simp (over_mul, under_mul) at second.value))))

-- the same where a summand may be +∞
pub add_mono_plus : (f : Format) {x y u v : Float} → Plus x → Plus y → Plus u → Plus v → T (le x u) → T (le y v) → T (le (add f x y) (add f u v))
unfolding add le
add_mono_plus f p q plus_inf plus_inf h k = le_inf (add_plus f p q)
add_mono_plus f p q plus_inf (plus_fin w j) h k = le_inf (add_plus f p q)
add_mono_plus f p q (plus_fin o i) plus_inf h k = le_inf (add_plus f p q)
add_mono_plus f plus_inf q (plus_fin o i) (plus_fin w j) h k = absurd h
add_mono_plus f (plus_fin m e) plus_inf (plus_fin o i) (plus_fin w j) h k = absurd k
add_mono_plus f (plus_fin m e) (plus_fin n g) (plus_fin o i) (plus_fin w j) h k =
    add_mono f (finite_fin false m e) (finite_fin false n g) (finite_fin false o i) (finite_fin false w j) h k

-- x is a fraction over E, y one over G that is not below 0, and z the sum over E G
not_below : (xo xu y zo zu E G : ℕ) → zo + xu * G + 0 ≡ zu + xo * G + y * E → xo * (E * G) + zu * E ≤ zo * E + xu * (E * G)
not_below xo xu y zo zu E G h = omega (arith, ap (λ (n : ℕ). n * E) h)

pub add_not_below : (f : Format) {x y : Float} → T (fits f x) → Finite x → Plus y → T (le x (add f x y))
unfolding add le
add_not_below f h (finite_fin s m e) plus_inf = tt
add_not_below f h (finite_fin s m e) (plus_fin n g) =
    let z = summed f s (m * up e * down g) false (n * up g * down e) (down e * down g) in
    rw z.is
    (subst (λ (x : Float). T (le x (round f z.sign z.size (down e * down g)))) (round_own f s m e h)
    (round_signed f s z.sign (m * up e) z.size (down e) (down e * down g) (down_pos e) (mul-pos (down_pos e) (down_pos g))
    (simp (over_mul, under_mul) (not_below _ _ (n * up g) (over z.sign z.size) (under z.sign z.size) (down e) (down g) (simp (over_mul, under_mul, zero-mul) at z.value)))))

-- the same where the other summand may be +∞
pub add_not_below_plus : (f : Format) {x y : Float} → T (fits f x) → Plus x → Plus y → T (le x (add f x y))
unfolding add le
add_not_below_plus f h plus_inf plus_inf = tt
add_not_below_plus f h plus_inf (plus_fin n g) = tt
add_not_below_plus f h (plus_fin m e) q = add_not_below f h (finite_fin false m e) q
