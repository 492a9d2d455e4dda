-- The order of numbers.
use Rattle.std.specs.Prelude.{◌≡◌, ℕ, ◌+◌, ◌*◌, ◌<◌, ◌≤◌, Bool, true, false, not, ◌&&◌, ◌||◌, T, ltb, ℤ, ◌==◌, ◌≢◌, nat_le, nat_lt, refl, Float}
use Rattle.std.proofs.Common.{sym, ap, ◌∙◌, add_comm, le_of_lt, le_of_eq, arith, ltb→lt, lt→ltb, eqb→eq, nltb→le}
use Rattle.std.proofs.Math.Arith.{lt→nleb}
use Rattle.std.proofs.Math.Dec.{nleb→lt}
use Rattle.std.specs.Float.{inf, fin}
use Rattle.std.specs.Float.Ieee.{lt, le, up, down}
use Rattle.std.specs.Float.Ieee.Fits.{down_pos, eq→eqb}
use Rattle.std.specs.Float.Ieee.Order.{le_of_values}
use Rattle.numbers.specs.Laws.Kinds.{Number, number_inf, number_fin, Plus, plus_inf, plus_fin}

-- two tests that hold together are equal
pub same_test : (a b : Bool) → (T a → T b) → (T b → T a) → a ≡ b
same_test true true h k = refl
same_test true false h k = absurd (h tt)
same_test false true h k = absurd (k tt)
same_test false false h k = refl

pub ltb_is_not_leb : (a b : ℕ) → nat_lt a b ≡ not (nat_le b a)
ltb_is_not_leb a b = same_test (nat_lt a b) (not (nat_le b a)) (λ t. lt→nleb b a (ltb→lt a b t)) (λ t. lt→ltb a b (nleb→lt b a t))

-- of two finite numbers with a clear sign bit the order is that of their fractions
pub le→cross : (m n : ℕ) (e g : ℤ) → T (le (fin false m e) (fin false n g)) → m * up e * down g ≤ n * up g * down e
unfolding le
le→cross m n e g h = go (nat_lt a b) (a == b) (ltb→lt a b) (eqb→eq a b) h
  where
    a : ℕ
    a = m * up e * down g

    b : ℕ
    b = n * up g * down e

    go : (p q : Bool) → (T p → a < b) → (T q → a ≡ b) → T (p || (q && true)) → a ≤ b
    go true q P Q h = le_of_lt (P tt)
    go false true P Q h = le_of_eq (Q tt)
    go false false P Q h = absurd h

pub cross→le : (m n : ℕ) (e g : ℤ) → m * up e * down g ≤ n * up g * down e → T (le (fin false m e) (fin false n g))
cross→le m n e g h = le_of_values (fin false m e) (fin false n g) (m * up e) (down e) (n * up g) (down g) (down_pos e) (down_pos g) (refl, refl) (refl, refl) h

-- no number is above +∞
pub le_inf : {x : Float} → Plus x → T (le x (inf false))
unfolding le
le_inf plus_inf = tt
le_inf (plus_fin m e) = tt

-- ---- of two numbers one is less, or the other is at most it
not_both : (a b : ℕ) (q : Bool) → (T q → a ≡ b) → (a ≡ b → T q) → nat_lt b a ≡ not (nat_lt a b || (q && true))
not_both a b q Q E = go (nat_lt a b) q (ltb→lt a b) (nltb→le a b) Q E
  where
    strict : b ≤ a → (a ≢ b) → b < a
    strict h k = omega arith

    go : (p q : Bool) → (T p → a < b) → (T (not p) → b ≤ a) → (T q → a ≡ b) → (a ≡ b → T q) → nat_lt b a ≡ not (p || (q && true))
    go true q P N Q E = same_test (nat_lt b a) false (λ t. absurd (omega (arith, ltb→lt b a t, P tt))) (λ t. absurd t)
    go false true P N Q E = same_test (nat_lt b a) false (λ t. absurd (omega (arith, ltb→lt b a t, Q tt))) (λ t. absurd t)
    go false false P N Q E = same_test (nat_lt b a) true (λ t. tt) (λ t. lt→ltb b a (strict (N tt) E))

-- of a negative and another number only two zeros are level
not_zeros : (a b : ℕ) → nat_lt 0 (a + b) ≡ not (a == b && a == 0)
not_zeros a b = go (a == b) (a == 0) (eqb→eq a b) (eqb→eq a 0) (eq→eqb {a = a} {b = b}) (eq→eqb {a = a} {b = 0})
  where
    nonzero : (a ≢ 0) → 0 < a + b
    nonzero k = omega arith

    unequal : (a ≢ b) → 0 < a + b
    unequal k = omega arith

    go : (p q : Bool) → (T p → a ≡ b) → (T q → a ≡ 0) → (a ≡ b → T p) → (a ≡ 0 → T q) → nat_lt 0 (a + b) ≡ not (p && q)
    go true true P Q E F = same_test (nat_lt 0 (a + b)) false (λ t. absurd (omega (arith, ltb→lt 0 (a + b) t, P tt, Q tt))) (λ t. absurd t)
    go true false P Q E F = same_test (nat_lt 0 (a + b)) true (λ t. tt) (λ t. lt→ltb 0 (a + b) (nonzero F))
    go false q P Q E F = same_test (nat_lt 0 (a + b)) true (λ t. tt) (λ t. lt→ltb 0 (a + b) (unequal E))

pub lt_is_not_le : {x y : Float} → Number x → Number y → lt y x ≡ not (le x y)
unfolding lt le
lt_is_not_le (number_inf true) (number_inf true) = refl
lt_is_not_le (number_inf true) (number_inf false) = refl
lt_is_not_le (number_inf false) (number_inf true) = refl
lt_is_not_le (number_inf false) (number_inf false) = refl
lt_is_not_le (number_inf true) (number_fin t n g) = refl
lt_is_not_le (number_inf false) (number_fin t n g) = refl
lt_is_not_le (number_fin s m e) (number_inf true) = refl
lt_is_not_le (number_fin s m e) (number_inf false) = refl
lt_is_not_le (number_fin true m e) (number_fin true n g) =
    let a = m * up e * down g in
    let b = n * up g * down e in
    not_both b a (a == b) (λ t. sym (eqb→eq a b t)) (λ h. eq→eqb (sym h))
lt_is_not_le (number_fin true m e) (number_fin false n g) = sure (nat_lt 0 (m * up e * down g + n * up g * down e)) _ (not_zeros (m * up e * down g) (n * up g * down e))
  where
    sure : (p q : Bool) → p ≡ not q → false ≡ not (p || q)
    sure true q h = refl
    sure false true h = refl
    sure false false h = h
lt_is_not_le (number_fin false m e) (number_fin true n g) =
    let a = m * up e * down g in
    let b = n * up g * down e in
    ap (ltb 0) (add_comm b a) ∙ not_zeros a b
lt_is_not_le (number_fin false m e) (number_fin false n g) =
    let a = m * up e * down g in
    let b = n * up g * down e in
    not_both a b (a == b) (eqb→eq a b) eq→eqb
