-- The bucket's credit stays a finite number, its debt at most 2 ^ 70 and itself at most the capacity, and what a debt waits is a number not below 0.
use Rattle.std.proofs.Common.{subst, mul_comm, arith, ltb→lt, lit<}
use Rattle.std.specs.Prelude.{ℕ, ◌+◌, ◌-◌, ◌*◌, ◌<◌, Bool, true, false, T, ℤ, pos, nat_lt, Float}
use Rattle.std.specs.Float.{inf, fin, binary64}
use Rattle.std.specs.Float.Ieee.{round, add, sum, sub, mul, div, neg, of_int, lt, le, up, down, fits}
use Rattle.std.specs.Float.Ieee.Fits.{round-fits, neg-fits, add-fits}
use Rattle.numbers.specs.Whole.{whole}
use Rattle.numbers.specs.Extremes.{minimum_of}
use Rattle.numbers.specs.Credit.{refilled_of, wait_of}
use Rattle.numbers.specs.Laws.Kinds.{Finite, finite_fin, finite_number, Plus, plus_inf, plus_fin, PlusFinite, plus_finite, Number, number_inf, number_fin, plus_number, plus_finite_number, plus_finite_plus}
use Rattle.numbers.specs.Laws.NotNan.{cond_has, round_plus, add_plus, mul_plus, div_plus}
use Rattle.numbers.specs.Laws.Transitive.{le_trans}
use Rattle.numbers.specs.Laws.Extremes.{chosen_has, chosen_number, minimum_below}
use Rattle.numbers.specs.Laws.Sums.{add_mono}
use Rattle.numbers.specs.Laws.Products.{finite_below, mul_mono, div_mono}
use Rattle.numbers.specs.Laws.Bounded.{Bounded, nought}
use Rattle.numbers.specs.Laws.Zero.{nought_least, add_minus_zero}
use Rattle.numbers.specs.Laws.Magnitude.{minus_le_plus, round_neg, le_neg, left_below}

-- the powers of two that bound the debt and a packet's length: one packet more than 2 ^ 70 rounds back to it
abbrev debt_power : ℕ
debt_power = 70

abbrev packet_power : ℕ
packet_power = 14

-- -(2 ^ 70)
abbrev pub deepest_debt : Float
deepest_debt = fin true 1 (pos debt_power)

-- 2 ^ 14
abbrev pub longest_packet : Float
longest_packet = fin false 1 (pos packet_power)

-- a finite value of the format, not below -(2 ^ 70)
pub record Credit (x : Float) : Type 0 where
  pub fit : T (fits binary64 x)
  pub finite : Finite x
  pub floor : T (le deepest_debt x)

-- the size of the deepest debt
abbrev deepest : Float
deepest = fin false 1 (pos debt_power)

pub plus_credit : {x : Float} → T (fits binary64 x) → PlusFinite x → Credit x
plus_credit h (plus_finite m e) = record { fit = h; finite = finite_fin false m e; floor = minus_le_plus 1 m (pos debt_power) e }

minus_credit : {x : Float} → T (fits binary64 x) → PlusFinite x → T (le x deepest) → Credit (neg x)
unfolding neg
minus_credit h (plus_finite m e) l = record { fit = neg-fits binary64 (fin false m e) h; finite = finite_fin true m e; floor = rw (le_neg m 1 e (pos debt_power)) l }

-- a rounding whose size is at most 2 ^ 70 is a credit, whatever its sign
round_credit : (s : Bool) (a c : ℕ) {y : Float} → Plus y → T (le (round binary64 false a c) y) → T (le y deepest) → Credit (round binary64 s a c)
round_credit s a c q k l =
    let h = round-fits binary64 false a c in
    let under = le_trans (plus_number (round_plus binary64 a c)) (plus_number q) (number_fin false 1 (pos debt_power)) k l in
    let clear = finite_below (round_plus binary64 a c) (finite_fin false 1 (pos debt_power)) under in
    elim s as (λ b. Credit (round binary64 b a c)) [ false ↦ plus_credit h clear | true ↦ rw (round_neg binary64 a c) (minus_credit h clear under) ]

-- ---- refilled

-- the amount of a refill is finite
amount : {x y : Float} → Bounded x → Bounded y → PlusFinite (div binary64 (mul binary64 x y) (whole 8000))
unfolding mul div of_int
amount p q =
    let under = mul_mono binary64 p.clear q.clear (plus_finite 1 (pos 53)) (plus_finite 1 (pos 53)) p.small q.small in
    let product = finite_below (mul_plus binary64 p.clear q.clear) (finite_fin false _ _) under in
    finite_below (div_plus binary64 125 (pos 6) (plus_finite_plus product) (lit< tt)) (finite_fin false _ _)
    (div_mono binary64 125 (pos 6) product (plus_finite 1 (pos 106)) (lit< tt) under)

-- a credit, or +∞
data Refilled : Float → Type 0 where
  held : {x : Float} → Credit x → Refilled x
  endless : Refilled (inf false)

refilled : {x : Float} → T (fits binary64 x) → Plus x → Refilled x
refilled h plus_inf = endless
refilled h (plus_fin m e) = held (plus_credit h (plus_finite m e))

-- a credit with a finite amount added is a credit, or +∞
refill : {x y : Float} → T (fits binary64 x) → Finite x → T (le deepest_debt x) → PlusFinite y → Refilled (add binary64 x y)
unfolding add sum neg
refill h (finite_fin false m e) l (plus_finite n g) = refilled (add-fits binary64 (fin false m e) (fin false n g)) (add_plus binary64 (plus_fin m e) (plus_fin n g))
refill h (finite_fin true m e) l (plus_finite n g) =
    let a = m * up e * down g in
    let b = n * up g * down e in
    let c = down e * down g in
    cond_has Refilled (nat_lt a b) (refilled (round-fits binary64 false (b - a) c) (round_plus binary64 (b - a) c))
    (held (round_credit (nat_lt b a) (a - b) c (plus_fin m e) (left_below binary64 m e g b (neg-fits binary64 (fin true m e) h)) (rw (le_neg m 1 e (pos debt_power)) at l)))

-- a refilled credit that is capped is a credit
capped : {x y : Float} → Refilled x → PlusFinite y → T (fits binary64 y) → Credit (minimum_of x y)
capped (held c) p h = chosen_has Credit _ c (plus_credit h p)
capped endless (plus_finite n g) h = unfold lt in rw (chosen_number true (number_inf false) (number_fin false n g)) (plus_credit h (plus_finite n g))

-- ---- charged

-- a credit from which a packet is taken is a credit: 2 ^ 70 + 2 ^ 14 rounds to 2 ^ 70
charge : {x y : Float} → T (fits binary64 x) → Finite x → T (le deepest_debt x) → T (fits binary64 y) → PlusFinite y → T (le y longest_packet) → Credit (sub binary64 x y)
unfolding sub add sum neg le
charge h (finite_fin true m e) l k (plus_finite n g) s =
    round_credit true (m * up e * down g + n * up g * down e) (down e * down g) (plus_fin 1 (pos debt_power))
    (add_mono binary64 (finite_fin false m e) (finite_fin false n g) (finite_fin false 1 (pos debt_power)) (finite_fin false 1 (pos packet_power)) (rw (le_neg m 1 e (pos debt_power)) at l) s) tt
charge h (finite_fin false m e) l k (plus_finite n g) s =
    let a = m * up e * down g in
    let b = n * up g * down e in
    let c = down e * down g in
    cond_has Credit (nat_lt a b)
    (round_credit true (b - a) c (plus_fin n g) (rw (mul_comm (down e) (down g)) (left_below binary64 n g e a k))
    (le_trans (number_fin false n g) (number_fin false 1 (pos packet_power)) (number_fin false 1 (pos debt_power)) s tt))
    (plus_credit (round-fits binary64 false (a - b) c) (finite_below (round_plus binary64 (a - b) c) (finite_fin false m e) (left_below binary64 m e g b h)))

-- a credit that is refilled, capped and charged stays one
pub credit_stays : {tokens elapsed rate cap len : Float} → Credit tokens → Bounded elapsed → Bounded rate → PlusFinite cap → T (fits binary64 cap) → PlusFinite len → T (fits binary64 len)
    → T (le len longest_packet) → Credit (sub binary64 (refilled_of tokens elapsed rate cap) len)
unfolding refilled_of
credit_stays t e r c cf l lf ll =
    let w = capped (refill t.fit t.finite t.floor (amount e r)) c cf in
    charge w.fit w.finite w.floor lf l ll

-- ---- not above the capacity

refilled_number : {x : Float} → Refilled x → Number x
refilled_number (held c) = finite_number c.finite
refilled_number endless = number_inf false

-- what is not above a bound is not above it after a packet is taken
taken_below : {x y cap : Float} → Finite x → PlusFinite y → T (fits binary64 cap) → PlusFinite cap → T (le x cap) → T (le (sub binary64 x y) cap)
unfolding sub neg
taken_below {x} f (plus_finite n g) h (plus_finite m e) l =
    subst (λ (z : Float). T (le (add binary64 x (fin true n g)) z)) (add_minus_zero binary64 (pos 0) h (plus_fin m e))
    (add_mono binary64 f (finite_fin true n g) (finite_fin false m e) (finite_fin true 0 (pos 0)) l (rw (le_neg 0 n (pos 0) g) (nought_least (plus_finite n g))))

pub credit_capped : {tokens elapsed rate cap len : Float} → Credit tokens → Bounded elapsed → Bounded rate → PlusFinite cap → T (fits binary64 cap) → PlusFinite len
    → T (le (sub binary64 (refilled_of tokens elapsed rate cap) len) cap)
unfolding refilled_of
credit_capped t e r c cf l =
    let full = refill t.fit t.finite t.floor (amount e r) in
    taken_below (capped full c cf).finite l cf c (minimum_below (refilled_number full) (plus_finite_number c)).1

-- ---- what a debt waits

-- what is below 0 and finite is owed
owed : {x : Float} → Finite x → T (lt x nought) → PlusFinite (neg x)
unfolding neg lt
owed (finite_fin false m e) h = absurd (omega (arith, ltb→lt (m * up e * 1) (0 * 1 * down e) h))
owed (finite_fin true m e) h = plus_finite m e

-- what a debt waits is a number not below 0
pub wait_plus : {tokens : Float} (n : ℕ) (g : ℤ) → Credit tokens → T (lt tokens nought) → 0 < n → Plus (wait_of tokens (fin false n g))
unfolding wait_of of_int
wait_plus n g t l h = div_plus binary64 n g (mul_plus binary64 (owed t.finite l) (plus_finite 125 (pos 6))) h
