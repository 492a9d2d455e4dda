-- A rounding, and so a sum, difference, product or quotient of finite numbers, is no NaN; of what has a clear sign bit the rounding has one too.
use Rattle.std.specs.Prelude.{◌≡◌, ℕ, zero, suc, ◌+◌, ◌-◌, ◌*◌, ◌^◌, ◌<◌, Bool, true, false, cond, not, ◌&&◌, T, ℤ, ◌==◌, nat_lt, Float}
use Rattle.std.proofs.Common.{sym, subst, arith, eqb→eq}
use Rattle.std.specs.Bool.{beq}
use Rattle.std.proofs.Math.Dec.{not_T}
use Rattle.std.specs.Float.{inf, fin, Format}
use Rattle.std.specs.Float.Ieee.{round, units, odd, add, sub, mul, div, neg, sum, up, down, unlike, low, emax}
use Rattle.std.specs.Float.Ieee.Fits.{round_is}
use Rattle.std.specs.Float.Ieee.Bits.{cond_no}
use Rattle.numbers.specs.Laws.Kinds.{Number, number_inf, number_fin, Finite, finite_fin, Plus, plus_inf, plus_fin, PlusFinite, plus_finite}

-- what holds of both branches holds of the one taken; of the first it need hold only where the test passes
pub cond_when : {A : Type 0} (P : A → Type 0) (b : Bool) {x y : A} → (T b → P x) → P y → P (cond b x y)
cond_when P true p q = p tt
cond_when P false p q = q

pub cond_has : {A : Type 0} (P : A → Type 0) (b : Bool) {x y : A} → P x → P y → P (cond b x y)
cond_has P b p q = cond_when P b (λ _. p) q

-- a rounding is a finite number or an infinity of its sign, so what holds of those holds of it
units_has : (P : Float → Type 0) (f : Format) (s : Bool) (q k : ℕ) → ((m : ℕ) (e : ℤ) → P (fin s m e)) → P (inf s) → P (units f s q k)
unfolding units odd
units_has P f s zero k o i = cond_has P (nat_lt (0 * 2 ^ k) (2 ^ (low f + suc (emax f)))) (o _ _) i
units_has P f s (suc q) k o i = cond_has P (nat_lt (suc q * 2 ^ k) (2 ^ (low f + suc (emax f)))) (o _ _) i

pub round_has : (P : Float → Type 0) (f : Format) (s : Bool) (a c : ℕ) → ((m : ℕ) (e : ℤ) → P (fin s m e)) → P (inf s) → P (round f s a c)
round_has P f s a c o i = subst P (sym (round_is f s a c)) (units_has P f s _ _ o i)

pub round_number : (f : Format) (s : Bool) (a c : ℕ) → Number (round f s a c)
round_number f s a c = round_has Number f s a c (number_fin s) (number_inf s)

pub round_plus : (f : Format) (a c : ℕ) → Plus (round f false a c)
round_plus f a c = round_has Plus f false a c plus_fin plus_inf

-- ---- sums and differences
pub sum_has : (P : Float → Type 0) (f : Format) (s : Bool) (a : ℕ) (t : Bool) (b c : ℕ) → ((r : Bool) (n : ℕ) → P (round f r n c)) → P (sum f s a t b c)
unfolding sum
sum_has P f s a t b c o = cond_has P (beq s t) (o s (a + b)) (cond_has P (nat_lt a b) (o t (b - a)) (o (s && nat_lt b a) (a - b)))

pub add_number : (f : Format) {x y : Float} → Finite x → Finite y → Number (add f x y)
unfolding add
add_number f (finite_fin s m e) (finite_fin t n g) = sum_has Number f s _ t _ _ (λ r k. round_number f r k _)

pub neg_finite : {x : Float} → Finite x → Finite (neg x)
unfolding neg
neg_finite (finite_fin s m e) = finite_fin (not s) m e

pub sub_number : (f : Format) {x y : Float} → Finite x → Finite y → Number (sub f x y)
unfolding sub
sub_number f p q = add_number f p (neg_finite q)

pub add_plus : (f : Format) {x y : Float} → Plus x → Plus y → Plus (add f x y)
unfolding add sum
add_plus f plus_inf plus_inf = plus_inf
add_plus f plus_inf (plus_fin n g) = plus_inf
add_plus f (plus_fin m e) plus_inf = plus_inf
add_plus f (plus_fin m e) (plus_fin n g) = round_plus f _ _

-- ---- products and quotients
pub mul_number : (f : Format) {x y : Float} → Finite x → Finite y → Number (mul f x y)
unfolding mul
mul_number f (finite_fin s m e) (finite_fin t n g) = round_number f _ _ _

pub mul_plus : (f : Format) {x y : Float} → PlusFinite x → PlusFinite y → Plus (mul f x y)
unfolding mul
mul_plus f (plus_finite m e) (plus_finite n g) = round_plus f _ _

-- a divisor that is a finite number and not 0
pub data Divisor : Float → Type 0 where
  divisor : (s : Bool) (n : ℕ) (g : ℤ) → 0 < n → Divisor (fin s n g)

-- such a quotient is the fraction, rounded once
pub div_fin : (f : Format) (s t : Bool) (m n : ℕ) (e g : ℤ) → 0 < n → div f (fin s m e) (fin t n g) ≡ round f (unlike s t) (m * up e * down g) (n * up g * down e)
unfolding div
div_fin f s t m n e g h = cond_no (n == 0) _ _ (not_T (n == 0) (λ z. omega (arith, eqb→eq n 0 z)))

pub div_number : (f : Format) {x y : Float} → Finite x → Divisor y → Number (div f x y)
div_number f (finite_fin s m e) (divisor t n g h) = rw (div_fin f s t m n e g h) (round_number f _ _ _)

pub div_plus : (f : Format) {x : Float} (n : ℕ) (g : ℤ) → Plus x → 0 < n → Plus (div f x (fin false n g))
unfolding div
div_plus f n g plus_inf h = plus_inf
div_plus f n g (plus_fin m e) h = rw (div_fin f false false m n e g h) (round_plus f _ _)
