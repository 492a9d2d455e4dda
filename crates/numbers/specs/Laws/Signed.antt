-- Signed fractions: a number of sign s and size n lies `over s n` above 0 or `under s n` below it, so that orders and sums of either sign are plain arithmetic.
use Rattle.std.specs.Prelude.{◌≡◌, ℕ, ◌+◌, ◌-◌, ◌*◌, ◌<◌, ◌≤◌, Bool, true, false, cond, not, T, ℤ, ◌==◌, nat_lt, refl, Float}
use Rattle.std.proofs.Common.{mul-le-mul_left, arith, ltb→lt, nltb→le, eqb→eq, lit<}
use Rattle.std.specs.Float.{fin, Format, binary32, binary64}
use Rattle.std.specs.Float.Ieee.{round, sum, neg, le, up, down}
use Rattle.std.specs.Float.Ieee.Fits.{and_l, and_r}
use Rattle.std.specs.Float.Ieee.Order.{round_mono}
use Rattle.std.specs.Float.Ieee.Scale.{round_same}
use Rattle.numbers.specs.Laws.Kinds.{Plus, plus_inf, plus_fin}
use Rattle.numbers.specs.Laws.NotNan.{round_plus}
use Rattle.numbers.specs.Laws.Order.{le→cross}
use Rattle.numbers.specs.Laws.Magnitude.{round_neg, le_neg, minus_le_plus}

abbrev pub over : Bool → ℕ → ℕ
over true n = 0
over false n = n

abbrev pub under : Bool → ℕ → ℕ
under true n = n
under false n = 0

-- ±a ≤ ±b
abbrev pub SignedLe : Bool → ℕ → Bool → ℕ → Type 0
SignedLe s a t b = over s a + under t b ≤ over t b + under s a

-- ---- the order of finite numbers is that of their signed fractions
pub le→signed : (s t : Bool) (m n : ℕ) (e g : ℤ) → T (le (fin s m e) (fin t n g)) → SignedLe s (m * up e * down g) t (n * up g * down e)
unfolding le
le→signed false false m n e g h = omega (arith, le→cross m n e g h)
le→signed true true m n e g h = omega (arith, le→cross n m g e (rw (le_neg n m g e) at h))
le→signed true false m n e g h = omega arith
le→signed false true m n e g h =
    let a = m * up e * down g in
    let b = n * up g * down e in
    omega (arith, eqb→eq a b (and_l (a == b) (a == 0) h), eqb→eq a 0 (and_r (a == b) (a == 0) h))

-- ---- roundings of signed fractions keep their order
neg_le : {x y : Float} → Plus x → Plus y → T (le y x) → T (le (neg x) (neg y))
unfolding neg le
neg_le plus_inf plus_inf h = tt
neg_le plus_inf (plus_fin n g) h = tt
neg_le (plus_fin m e) plus_inf h = absurd h
neg_le (plus_fin m e) (plus_fin n g) h = rw (le_neg n m g e) h

neg_le_plus : {x y : Float} → Plus x → Plus y → T (le (neg x) y)
unfolding neg le
neg_le_plus plus_inf plus_inf = tt
neg_le_plus plus_inf (plus_fin n g) = tt
neg_le_plus (plus_fin m e) plus_inf = tt
neg_le_plus (plus_fin m e) (plus_fin n g) = minus_le_plus m n e g

zeros_le : (f : Format) → T (le (round f false 0 1) (round f true 0 1))
unfolding le round
zeros_le binary32 = tt
zeros_le binary64 = tt

round_zero : (f : Format) (s : Bool) (a c d : ℕ) → 0 < c → 0 < d → a * d ≡ 0 → round f s a c ≡ round f s 0 1
round_zero f s a c d C D h = round_same f s a c 0 1 C (lit< tt) (none a d D h)
  where
    none : (a d : ℕ) → 0 < d → a * d ≡ 0 → a * 1 ≡ 0 * c
    none a d D h = omega (arith, mul-le-mul_left a D)

pub round_signed : (f : Format) (s t : Bool) (a b c d : ℕ) → 0 < c → 0 < d → SignedLe s (a * d) t (b * c) → T (le (round f s a c) (round f t b d))
round_signed f false false a b c d C D h = round_mono f a c b d C D (omega arith)
round_signed f true true a b c d C D h = rw (round_neg f a c, round_neg f b d) (neg_le (round_plus f a c) (round_plus f b d) (round_mono f b d a c D C (omega arith)))
round_signed f true false a b c d C D h = rw (round_neg f a c) (neg_le_plus (round_plus f a c) (round_plus f b d))
round_signed f false true a b c d C D h = rw (round_zero f false a c d C D (omega arith), round_zero f true b d c D C (omega arith)) (zeros_le f)

-- ---- a sum of finite numbers is the rounding of the sum of their signed fractions
pub record Summed (f : Format) (s : Bool) (a : ℕ) (t : Bool) (b c : ℕ) (x : Float) : Type 0 where
  pub sign : Bool
  pub size : ℕ
  pub is : x ≡ round f sign size c
  pub value : over sign size + under s a + under t b ≡ under sign size + over s a + over t b

pub summed : (f : Format) (s : Bool) (a : ℕ) (t : Bool) (b c : ℕ) → Summed f s a t b c (sum f s a t b c)
unfolding sum
summed f false a false b c = record { sign = false; size = a + b; is = refl; value = omega arith }
summed f true a true b c = record { sign = true; size = a + b; is = refl; value = omega arith }
summed f true a false b c = go (nat_lt a b) (nat_lt b a) (ltb→lt a b) (nltb→le a b) (ltb→lt b a) (nltb→le b a)
  where
    go : (p q : Bool) → (T p → a < b) → (T (not p) → b ≤ a) → (T q → b < a) → (T (not q) → a ≤ b) → Summed f true a false b c (cond p (round f false (b - a) c) (round f q (a - b) c))
    go true q P N Q M = record { sign = false; size = b - a; is = refl; value = omega (arith, P tt) }
    go false true P N Q M = record { sign = true; size = a - b; is = refl; value = omega (arith, Q tt) }
    go false false P N Q M = record { sign = false; size = a - b; is = refl; value = omega (arith, N tt, M tt) }
summed f false a true b c = go (nat_lt a b) (ltb→lt a b) (nltb→le a b)
  where
    go : (p : Bool) → (T p → a < b) → (T (not p) → b ≤ a) → Summed f false a true b c (cond p (round f true (b - a) c) (round f false (a - b) c))
    go true P N = record { sign = true; size = b - a; is = refl; value = omega (arith, P tt) }
    go false P N = record { sign = false; size = a - b; is = refl; value = omega (arith, N tt) }
