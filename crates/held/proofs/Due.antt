-- The copy that leaves is one of the list; and where every due is a number it is the least of all, if that one is due.
use Rattle.std.specs.Prelude.{◌≡◌, refl, ◌⊎◌, Bool, true, false, not, cond, List, [], ◌∷◌, Float}
use Rattle.std.proofs.Common.{sym, ap, ◌∙◌, subst, inl, inr, true≢false}
use Rattle.std.specs.Float.{nan, inf, fin}
use Rattle.std.specs.Float.Ieee.{lt, eq, le, is_nan}
use Rattle.numbers.specs.Laws.Kinds.{number_of}
use Rattle.numbers.specs.Laws.NotNan.{cond_has}
use Rattle.numbers.specs.Laws.Order.{lt_is_not_le}
use Rattle.held.specs.Order.{before_of}
use Rattle.held.specs.Copies.{Copy, least, Mem, NumberDues, due_by, Leaving, no_copy, one_copy, least_in, leaving}
use Rattle.held.specs.Laws.Order.{Num, not_lt_trans, before_asym}
use Rattle.held.specs.Laws.Least.{least_mem, num_better}

-- ---- the copy that leaves is held

due_mem : (now : Float) (l : List Copy) (c : Copy) → Mem c (due_by now l) → Mem c l
unfolding due_by
due_mem now [] c k = k
due_mem now (x ∷ l) c k = go (le x.due now) k (due_mem now l c)
  where
    go : (b : Bool) → Mem c (cond b (x ∷ due_by now l) (due_by now l)) → (Mem c (due_by now l) → Mem c l) → (c ≡ x) ⊎ Mem c l
    go true (inl e) ih = inl e
    go true (inr j) ih = inr (ih j)
    go false j ih = inr (ih j)

least_in_mem : (l : List Copy) (c : Copy) → least_in l ≡ one_copy c → Mem c l
unfolding least_in
least_in_mem [] c e = let z : ◌≡◌ {A = Bool} true false = cc in absurd (true≢false z)
least_in_mem (x ∷ l) c e = let z : least x l ≡ c = cc in subst (λ (w : Copy). Mem w (x ∷ l)) z (least_mem x l)

pub leaving_mem : (now : Float) (l : List Copy) (c : Copy) → leaving now l ≡ one_copy c → Mem c l
unfolding leaving
leaving_mem now l c e = due_mem now l c (least_in_mem (due_by now l) c e)

-- ---- the least of all

-- nothing is at most a NaN
at_most_number : (x y : Float) → le x y ≡ true → Num y
unfolding le lt eq is_nan
at_most_number nan nan h = sym h
at_most_number (inf s) nan h = sym h
at_most_number (fin s m e) nan h = sym h
at_most_number x (inf s) h = refl
at_most_number x (fin s m e) h = refl

lt_not_le : (x y : Float) → Num x → Num y → lt y x ≡ not (le x y)
lt_not_le x y nx ny = lt_is_not_le (number_of x (rw nx tt)) (number_of y (rw ny tt))

-- what has come is below what has not
due_below : (now x y : Float) → Num x → Num y → le x now ≡ true → le y now ≡ false → lt x y ≡ true
due_below now x y nx ny a b = go (lt x y) refl
  where
    nn : Num now
    nn = at_most_number x now a

    go : (r : Bool) → lt x y ≡ r → lt x y ≡ true
    go true e = e
    go false e =
        absurd (true≢false (ap not (sym b) ∙ sym (lt_not_le y now ny nn) ∙ not_lt_trans now x y nn nx ny (lt_not_le x now nx nn ∙ ap not a) e))

-- so it is before it, whatever their seqs
due_before : (now : Float) (x y : Copy) → Num x.due → Num y.due → le x.due now ≡ true → le y.due now ≡ false → before_of x.due x.seq y.due y.seq ≡ true
unfolding before_of
due_before now x y nx ny a b = rw (due_below now x.due y.due nx ny a b)

-- of two copies that are alike due the one taken is so too
alike_due : (now : Float) (x c : Copy) (due taken : Bool) → le x.due now ≡ due → le c.due now ≡ due → le (cond taken x c).due now ≡ due
alike_due now x c due taken a b = cond_has (λ (k : Copy). le k.due now ≡ due) taken a b

-- the first of two copies stands for both
first_due : (now : Float) (x c : Copy) (l : List Copy) → Num x.due → Num c.due
    → (p q : Bool) → le c.due now ≡ p → le x.due now ≡ q
    → leaving now (c ∷ x ∷ l) ≡ leaving now (cond (before_of x.due x.seq c.due c.seq) x c ∷ l)
unfolding leaving due_by least_in least
first_due now x c l nx nc true true a b = rw (a, b, alike_due now x c true (before_of x.due x.seq c.due c.seq) b a)
first_due now x c l nx nc true false a b = rw (before_asym c.due c.seq x.due x.seq (due_before now c x nc nx a b), a, b)
first_due now x c l nx nc false true a b = rw (due_before now x c nx nc b a, a, b)
first_due now x c l nx nc false false a b = rw (a, b, alike_due now x c false (before_of x.due x.seq c.due c.seq) b a)

-- a copy that leaves if it is due
abbrev pub if_due : Float → Copy → Leaving
if_due now c = cond (le c.due now) (one_copy c) no_copy

alone_due : (now : Float) (c : Copy) → leaving now (c ∷ []) ≡ if_due now c
unfolding leaving due_by least_in least
alone_due now c = go (le c.due now)
  where
    go : (b : Bool) → least_in (cond b (c ∷ []) []) ≡ cond b (one_copy c) no_copy
    go true = refl
    go false = refl

pub least_due_lem : (now : Float) (c : Copy) (l : List Copy) → NumberDues (c ∷ l) → leaving now (c ∷ l) ≡ if_due now (least c l)
unfolding least
least_due_lem now c [] h = alone_due now c
least_due_lem now c (x ∷ l) h =
    first_due now x c l (h x (inr (inl refl))) (h c (inl refl)) (le c.due now) (le x.due now) refl refl
    ∙ least_due_lem now (cond (before_of x.due x.seq c.due c.seq) x c) l (num_better x c l h)
