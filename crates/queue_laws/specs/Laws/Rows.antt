-- Lists of copies up to order, and the rows of the slots in use.
use Rattle.std.specs.Prelude.{◌≡◌, ◌≢◌, ◌⊎◌, Bool, true, false, length, ltb, eqb}
use Rattle.std.proofs.Math.Path.{refl, ap}
use Rattle.std.proofs.Common.{sym, ◌∙◌, subst, inl, inr, arith}
use Rattle.std.proofs.Math.Logic.{⊎_elim}
use mathlib.Core.List.{List, [], ◌∷◌, ◌++◌}
use Rattle.std.proofs.Math.Bool.{cond}
use Prim.Native.Nat.{ℕ, zero, suc, ◌<◌, ◌≤◌}
use borrow.Author.Tests.{lt-ltb, le-ltb, eq-eqb, ne_eqb, ltb-true}
use Rattle.held.specs.Copies.{Copy, without, Mem}
use Rattle.queue_laws.specs.Laws.Tree.{eq_cases, lt_cases}

-- the same copies, in another order
pub data Perm : List Copy → List Copy → Type 0 where
  none : Perm [] []
  skip : (x : Copy) {l r : List Copy} → Perm l r → Perm (x ∷ l) (x ∷ r)
  swap : (x y : Copy) (l : List Copy) → Perm (x ∷ y ∷ l) (y ∷ x ∷ l)
  trans : {l m r : List Copy} → Perm l m → Perm m r → Perm l r

pub perm_refl : (l : List Copy) → Perm l l
perm_refl [] = none
perm_refl (x ∷ l) = skip x (perm_refl l)

pub perm_sym : {l r : List Copy} → Perm l r → Perm r l
perm_sym none = none
perm_sym (skip x p) = skip x (perm_sym p)
perm_sym (swap x y l) = swap y x l
perm_sym (trans p q) = trans (perm_sym q) (perm_sym p)

pub perm_length : {l r : List Copy} → Perm l r → length l ≡ length r
perm_length none = refl
perm_length (skip x p) = ap suc (perm_length p)
perm_length (swap x y l) = refl
perm_length (trans p q) = perm_length p ∙ perm_length q

pub perm_mem : {l r : List Copy} (c : Copy) → Perm l r → Mem c l → Mem c r
perm_mem c none m = m
perm_mem c (skip x p) m = ⊎_elim (λ e. inl e) (λ k. inr (perm_mem c p k)) m
perm_mem c (swap x y l) m = ⊎_elim (λ e. inr (inl e)) (λ k. ⊎_elim (λ e. inl e) (λ j. inr (inr j)) k) m
perm_mem c (trans p q) m = perm_mem c q (perm_mem c p m)

perm_cond : (b : Bool) (x : Copy) {l r : List Copy} → Perm l r → Perm (cond b l (x ∷ l)) (cond b r (x ∷ r))
perm_cond true x p = p
perm_cond false x p = skip x p

either_swap : (a b : Bool) (x y : Copy) (l : List Copy) → Perm (cond a (cond b l (y ∷ l)) (x ∷ cond b l (y ∷ l))) (cond b (cond a l (x ∷ l)) (y ∷ cond a l (x ∷ l)))
either_swap true true x y l = perm_refl l
either_swap true false x y l = perm_refl (y ∷ l)
either_swap false true x y l = perm_refl (x ∷ l)
either_swap false false x y l = swap x y l

pub perm_without : (q : ℕ) {l r : List Copy} → Perm l r → Perm (without q l) (without q r)
unfolding without
perm_without q none = none
perm_without q (skip x p) = perm_cond (eqb x.seq q) x (perm_without q p)
perm_without q (swap x y l) = either_swap (eqb x.seq q) (eqb y.seq q) x y (without q l)
perm_without q (trans p r) = trans (perm_without q p) (perm_without q r)

-- a copy at the end stands for one at the front
pub perm_last : (l : List Copy) (x : Copy) → Perm (l ++ (x ∷ [])) (x ∷ l)
perm_last [] x = perm_refl (x ∷ [])
perm_last (y ∷ l) x = trans (skip y (perm_last l x)) (swap y x l)

-- ---- the rows in use

-- 2 ^ 60 + 1: the seq of every copy that is held is below it, and that of a free slot is not
abbrev pub seq_limit : ℕ
seq_limit = 1152921504606846977

-- the rows below n that are in use
unfoldable pub view : (ℕ → Copy) → ℕ → List Copy
view row zero = []
view row (suc n) = cond (ltb (row n).seq seq_limit) (row n ∷ view row n) (view row n)

pub view_mem : (row : ℕ → Copy) (n s : ℕ) → s < n → (row s).seq < seq_limit → Mem (row s) (view row n)
unfolding view
view_mem row zero s h l = absurd (omega arith)
view_mem row (suc n) s h l = ⊎_elim
    (λ (e : s ≡ n). subst (λ (b : Bool). Mem (row s) (cond b (row n ∷ view row n) (view row n))) (sym (lt-ltb (row n).seq seq_limit (subst (λ (k : ℕ). (row k).seq < seq_limit) e l))) (inl (ap row e)))
    (λ (e : s ≢ n). deeper (ltb (row n).seq seq_limit) (view_mem row n s (omega arith) l))
    (eq_cases s n)
  where
    deeper : (b : Bool) → Mem (row s) (view row n) → Mem (row s) (cond b (row n ∷ view row n) (view row n))
    deeper true m = inr m
    deeper false m = m

-- a slot in use that holds a copy
pub record Place (row : ℕ → Copy) (n : ℕ) (c : Copy) : Type 0 where
  pub slot : ℕ
  pub low : slot < n
  pub used : (row slot).seq < seq_limit
  pub is : c ≡ row slot

place_more : {row : ℕ → Copy} {n : ℕ} {c : Copy} → Place row n c → Place row (suc n) c
place_more p = record { slot = p.slot; low = omega arith; used = p.used; is = p.is }

pub view_place : (row : ℕ → Copy) (n : ℕ) (c : Copy) → Mem c (view row n) → Place row n c
unfolding view
view_place row zero c m = absurd m
view_place row (suc n) c m = go (ltb (row n).seq seq_limit) refl m (λ (k : Mem c (view row n)). view_place row n c k)
  where
    go : (b : Bool) → ltb (row n).seq seq_limit ≡ b → Mem c (cond b (row n ∷ view row n) (view row n)) → (Mem c (view row n) → Place row n c) → Place row (suc n) c
    go true e (inl q) ih = record { slot = n; low = omega arith; used = ltb-true _ _ e; is = q }
    go true e (inr k) ih = place_more (ih k)
    go false e k ih = place_more (ih k)

-- the same rows
pub view_same : (row row' : ℕ → Copy) (n : ℕ) → ((x : ℕ) → x < n → row x ≡ row' x) → view row n ≡ view row' n
unfolding view
view_same row row' zero h = refl
view_same row row' (suc n) h =
    ap (λ (c : Copy). cond (ltb c.seq seq_limit) (c ∷ view row n) (view row n)) (h n (omega arith))
    ∙ ap (λ (l : List Copy). cond (ltb (row' n).seq seq_limit) (row' n ∷ l) l) (view_same row row' n (λ (x : ℕ) (l : x < n). h x (omega arith)))

-- more rows, none in use
pub view_more : (row : ℕ → Copy) (n m : ℕ) → n ≤ m → ((x : ℕ) → n ≤ x → x < m → seq_limit ≤ (row x).seq) → view row m ≡ view row n
unfolding view
view_more row n zero h d = ap (view row) (let z : ◌≡◌ {A = ℕ} 0 n = omega arith in z)
view_more row n (suc m) h d = ⊎_elim
    (λ (e : n ≡ suc m). rw e)
    (λ (e : n ≢ suc m). rw (le-ltb (row m).seq seq_limit (d m (omega arith) (omega arith))) (view_more row n m (omega arith) (λ (x : ℕ) (a : n ≤ x) (b : x < m). d x a (omega arith))))
    (eq_cases n (suc m))

-- ---- a row changes

module _ (row row' : ℕ → Copy) (s : ℕ) (other : (x : ℕ) → x ≢ s → row' x ≡ row x) where
  view_below : (n : ℕ) → n ≤ s → view row' n ≡ view row n
  unfolding view
  view_below zero h = refl
  view_below (suc n) h =
      ap (λ (c : Copy). cond (ltb c.seq seq_limit) (c ∷ view row' n) (view row' n)) (other n (omega arith))
      ∙ ap (λ (l : List Copy). cond (ltb (row n).seq seq_limit) (row n ∷ l) l) (view_below n (omega arith))

  -- a free slot is taken
  pub view_push : seq_limit ≤ (row s).seq → (row' s).seq < seq_limit → (n : ℕ) → s < n → Perm (row' s ∷ view row n) (view row' n)
  unfolding view
  view_push dead live zero h = absurd (omega arith)
  view_push dead live (suc n) h = ⊎_elim
      (λ (e : s ≡ n). here e)
      (λ (e : s ≢ n). rw (other n (λ (q : n ≡ s). e (sym q))) (deeper (ltb (row n).seq seq_limit) (view_push dead live n (omega arith))))
      (eq_cases s n)
    where
      here : s ≡ n → Perm (row' s ∷ cond (ltb (row n).seq seq_limit) (row n ∷ view row n) (view row n)) (cond (ltb (row' n).seq seq_limit) (row' n ∷ view row' n) (view row' n))
      here e = rw (← e, le-ltb (row s).seq seq_limit dead, lt-ltb (row' s).seq seq_limit live, view_below s (omega arith)) (perm_refl _)

      deeper : (b : Bool) → Perm (row' s ∷ view row n) (view row' n) → Perm (row' s ∷ cond b (row n ∷ view row n) (view row n)) (cond b (row n ∷ view row' n) (view row' n))
      deeper true p = trans (swap (row' s) (row n) (view row n)) (skip (row n) p)
      deeper false p = p

  -- a slot in use is freed: all but the copy with its number is left
  pub view_pop : (row s).seq < seq_limit → seq_limit ≤ (row' s).seq → (n : ℕ) → ((x : ℕ) → x < n → (row x).seq < seq_limit → (row x).seq ≡ (row s).seq → x ≡ s) → view row' n ≡ without (row s).seq (view row n)
  unfolding view without
  view_pop live dead zero uniq = refl
  view_pop live dead (suc n) uniq =
      let ih : view row' n ≡ without (row s).seq (view row n) = view_pop live dead n (λ (x : ℕ) (h : x < n). uniq x (omega arith)) in
      ⊎_elim
      (λ (e : n ≡ s). here e ih)
      (λ (e : n ≢ s). rw (other n e) (deeper e (lt_cases (row n).seq seq_limit) ih))
      (eq_cases n s)
    where
      here : n ≡ s → view row' n ≡ without (row s).seq (view row n) → cond (ltb (row' n).seq seq_limit) (row' n ∷ view row' n) (view row' n) ≡ without (row s).seq (cond (ltb (row n).seq seq_limit) (row n ∷ view row n) (view row n))
      here e h =
          let k : view row' s ≡ without (row s).seq (view row s) = rw e at h in
          rw (e, le-ltb (row' s).seq seq_limit dead, lt-ltb (row s).seq seq_limit live, eq-eqb (row s).seq (row s).seq refl) k

      deeper : n ≢ s → ((row n).seq < seq_limit) ⊎ (seq_limit ≤ (row n).seq) → view row' n ≡ without (row s).seq (view row n) → cond (ltb (row n).seq seq_limit) (row n ∷ view row' n) (view row' n) ≡ without (row s).seq (cond (ltb (row n).seq seq_limit) (row n ∷ view row n) (view row n))
      deeper e (inl l) h = rw (lt-ltb (row n).seq seq_limit l, ne_eqb (row n).seq (row s).seq (λ (q : (row n).seq ≡ (row s).seq). e (uniq n (omega arith) l q))) (ap (λ (k : List Copy). row n ∷ k) h)
      deeper e (inr l) h = rw (le-ltb (row n).seq seq_limit l) h
