-- The keys whose due is no NaN are ordered by `before_of`.
use Rattle.std.specs.Prelude.{◌≡◌, refl, Bool, true, false, not, cond, ℕ, ◌≤◌, T, ltb, Float}
use Rattle.std.proofs.Common.{sym, ap, ◌∙◌, true≢false, arith, le-ltb, ltb-true, ltb-false}
use Rattle.std.specs.Float.{nan, inf, fin}
use Rattle.std.specs.Float.Ieee.{lt, le, is_nan}
use Rattle.std.specs.Float.Ieee.Bits.{is_true}
use Rattle.std.proofs.lemmas.Bool.{not-false}
use Rattle.numbers.specs.Laws.Kinds.{Number, number_inf, number_fin, number_of}
use Rattle.numbers.specs.Laws.Order.{lt_is_not_le}
use Rattle.numbers.specs.Laws.Transitive.{le_trans}
use Rattle.held.specs.Order.{before_of}

-- no NaN
abbrev pub Num : Float → Type 0
Num x = is_nan x ≡ false

number : {x : Float} → Num x → Number x
number {x} h = number_of x (rw h tt)

-- of two numbers, the first is not below the second where the second is at most the first
lt_le : {x y : Float} → Number x → Number y → lt x y ≡ false → T (le y x)
lt_le {x} {y} p q h = rw (not-false (le y x) (sym (lt_is_not_le q p) ∙ h)) tt

le_lt : {x y : Float} → Number x → Number y → T (le y x) → lt x y ≡ false
le_lt {x} {y} p q h = lt_is_not_le q p ∙ ap not (is_true (le y x) h)

-- what is below is at most
at_most : (x y : Float) → lt x y ≡ true → T (le x y)
unfolding le
at_most x y h = rw h tt

-- "not below" is transitive
pub not_lt_trans : (x y z : Float) → Num x → Num y → Num z → lt x y ≡ false → lt y z ≡ false → lt x z ≡ false
not_lt_trans x y z nx ny nz a b =
    let p = number nx in
    let q = number ny in
    let r = number nz in
    le_lt p r (le_trans r q p (lt_le q r b) (lt_le p q a))

lt_asym_number : {x : Float} → Number x → (y : Float) → lt x y ≡ true → lt y x ≡ false
unfolding lt
lt_asym_number p nan a = refl
lt_asym_number {x} p (inf t) a = le_lt (number_inf t) p (at_most x (inf t) a)
lt_asym_number {x} p (fin t n d) a = le_lt (number_fin t n d) p (at_most x (fin t n d) a)

-- of two floats at most one is below the other
pub lt_asym : (x y : Float) → lt x y ≡ true → lt y x ≡ false
unfolding lt
lt_asym nan y a = absurd (true≢false (sym a))
lt_asym (inf s) y a = lt_asym_number (number_inf s) y a
lt_asym (fin s m e) y a = lt_asym_number (number_fin s m e) y a

-- ---- the keys

-- (d, s) is not before (e, t)
record Not (d : Float) (s : ℕ) (e : Float) (t : ℕ) : Type 0 where
  not_lt : lt d e ≡ false
  tie : lt e d ≡ false → t ≤ s

not_before : (d : Float) (s : ℕ) (e : Float) (t : ℕ) → before_of d s e t ≡ false → Not d s e t
unfolding before_of
not_before d s e t h = go (lt d e) (lt e d) refl refl h
  where
    go : (a b : Bool) → lt d e ≡ a → lt e d ≡ b → cond a true (cond b false (ltb s t)) ≡ false → Not d s e t
    go true b p q k = absurd (true≢false k)
    go false true p q k = record { not_lt = p; tie = λ (u : lt e d ≡ false). absurd (true≢false (sym q ∙ u)) }
    go false false p q k = record { not_lt = p; tie = λ (u : lt e d ≡ false). ltb-false s t k }

before_not : (d : Float) (s : ℕ) (e : Float) (t : ℕ) → Not d s e t → before_of d s e t ≡ false
unfolding before_of
before_not d s e t n = go (lt e d) refl
  where
    go : (b : Bool) → lt e d ≡ b → cond (lt d e) true (cond (lt e d) false (ltb s t)) ≡ false
    go true q = rw (n.not_lt, q)
    go false q = rw (n.not_lt, q) (le-ltb s t (n.tie q))

-- "not before" is transitive
pub not_before_trans : (d : Float) (s : ℕ) (e : Float) (t : ℕ) (f : Float) (u : ℕ) → Num d → Num e → Num f → before_of d s e t ≡ false → before_of e t f u ≡ false
    → before_of d s f u ≡ false
not_before_trans d s e t f u nd ne nf a b =
    let p = not_before d s e t a in
    let q = not_before e t f u b in
    before_not d s f u (record {
      not_lt = not_lt_trans d e f nd ne nf p.not_lt q.not_lt;
      tie = λ (v : lt f d ≡ false).
          let x : u ≤ t = q.tie (not_lt_trans f d e nf nd ne v p.not_lt) in
          let y : t ≤ s = p.tie (not_lt_trans e f d ne nf nd q.not_lt v) in
          omega arith;
    })

-- of two keys at most one is before the other
pub before_asym : (d : Float) (s : ℕ) (e : Float) (t : ℕ) → before_of d s e t ≡ true → before_of e t d s ≡ false
unfolding before_of
before_asym d s e t h = go (lt d e) (lt e d) refl refl h
  where
    go : (a b : Bool) → lt d e ≡ a → lt e d ≡ b → cond a true (cond b false (ltb s t)) ≡ true → cond (lt e d) true (cond (lt d e) false (ltb t s)) ≡ false
    go true b p q k = rw (lt_asym d e p, p)
    go false true p q k = absurd (true≢false (sym k))
    go false false p q k = rw (q, p) (le-ltb t s (omega (arith, ltb-true s t k)))

-- no key is before itself
pub before_self : (d : Float) (n : ℕ) → before_of d n d n ≡ false
before_self d n = go (before_of d n d n) refl
  where
    go : (b : Bool) → before_of d n d n ≡ b → before_of d n d n ≡ false
    go true e = before_asym _ _ _ _ e
    go false e = e

-- two keys of which neither is before the other have the same seq
pub before_same : (d : Float) (s : ℕ) (e : Float) (t : ℕ) → before_of d s e t ≡ false → before_of e t d s ≡ false → s ≡ t
before_same d s e t a b =
    let p = not_before d s e t a in
    let q = not_before e t d s b in
    omega (arith, p.tie q.not_lt, q.tie p.not_lt)
