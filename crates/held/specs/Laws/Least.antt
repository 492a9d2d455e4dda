-- The least of a list stands in it, and none of the list is before it. What stands in a list with a copy more, or without one.
use Rattle.std.specs.Prelude.{◌≡◌, refl, ◌⊎◌, Bool, true, false, cond, List, [], ◌∷◌, ◌++◌, ℕ, eqb}
use Rattle.std.proofs.Common.{◌∙◌, inl, inr, ⊎_elim}
use Rattle.held.specs.Order.{before_of}
use Rattle.held.specs.Copies.{Copy, least, without, Mem, NumberDues}
use Rattle.held.specs.Laws.Order.{Num, before_asym, before_self, not_before_trans}

-- x is not before b
abbrev pub Le : Copy → Copy → Type 0
Le b x = before_of x.due x.seq b.due b.seq ≡ false

le_refl : (c : Copy) → Le c c
le_refl c = before_self c.due c.seq

better : Copy → Copy → Copy
better x c = cond (before_of x.due x.seq c.due c.seq) x c

record Better (x c b : Copy) : Type 0 where
  one : (b ≡ c) ⊎ (b ≡ x)
  le_c : Le b c
  le_x : Le b x

better_is : (x c : Copy) → Better x c (better x c)
unfolding better
better_is x c = go (before_of x.due x.seq c.due c.seq) refl
  where
    go : (b : Bool) → before_of x.due x.seq c.due c.seq ≡ b → Better x c (cond b x c)
    go true e = record { one = inr refl; le_c = before_asym _ _ _ _ e; le_x = le_refl x }
    go false e = record { one = inl refl; le_c = le_refl c; le_x = e }

pub num_better : (x c : Copy) (l : List Copy) → NumberDues (c ∷ x ∷ l) → NumberDues (cond (before_of x.due x.seq c.due c.seq) x c ∷ l)
num_better x c l h y m = go (before_of x.due x.seq c.due c.seq) m
  where
    go : (b : Bool) → (y ≡ cond b x c) ⊎ Mem y l → Num y.due
    go true (inl e) = h y (inr (inl e))
    go false (inl e) = h y (inl e)
    go true (inr k) = h y (inr (inr k))
    go false (inr k) = h y (inr (inr k))

pub least_mem : (c : Copy) (l : List Copy) → Mem (least c l) (c ∷ l)
unfolding least better
least_mem c [] = inl refl
least_mem c (x ∷ l) = ⊎_elim
    (λ (e : least (better x c) l ≡ better x c). ⊎_elim (λ (q : better x c ≡ c). inl (e ∙ q)) (λ (q : better x c ≡ x). inr (inl (e ∙ q))) (better_is x c).one)
    (λ (k : Mem (least (better x c) l) l). inr (inr k))
    (least_mem (better x c) l)

le_trans : (a b c : Copy) → Num a.due → Num b.due → Num c.due → Le a b → Le b c → Le a c
le_trans a b c na nb nc p q = not_before_trans _ _ _ _ _ _ nc nb na q p

pub least_le : (c : Copy) (l : List Copy) → NumberDues (c ∷ l) → (x : Copy) → Mem x (c ∷ l) → Le (least c l) x
unfolding least better
least_le c [] h x (inl e) = rw e (le_refl c)
least_le c [] h x (inr m) = absurd m
least_le c (y ∷ l) h x m = go (least_le (better y c) l (num_better y c l h)) m
  where
    nums : NumberDues (better y c ∷ l)
    nums = num_better y c l h

    far : (z : Copy) → Num z.due → Le (better y c) z → ((x : Copy) → Mem x (better y c ∷ l) → Le (least (better y c) l) x) → Le (least (better y c) l) z
    far z nz q ih = le_trans (least (better y c) l) (better y c) z (nums _ (least_mem (better y c) l)) (nums _ (inl refl)) nz (ih (better y c) (inl refl)) q

    go : ((x : Copy) → Mem x (better y c ∷ l) → Le (least (better y c) l) x) → Mem x (c ∷ y ∷ l) → Le (least (better y c) l) x
    go ih (inl e) = rw e (far c (h c (inl refl)) (better_is y c).le_c ih)
    go ih (inr (inl e)) = rw e (far y (h y (inr (inl refl))) (better_is y c).le_x ih)
    go ih (inr (inr k)) = ih x (inr k)

-- ---- a copy more, and without one

pub mem_last : (l : List Copy) (x c : Copy) → Mem c (l ++ (x ∷ [])) → Mem c l ⊎ (c ≡ x)
mem_last [] x c (inl e) = inr e
mem_last [] x c (inr k) = absurd k
mem_last (y ∷ l) x c (inl e) = inl (inl e)
mem_last (y ∷ l) x c (inr k) = ⊎_elim (λ (j : Mem c l). inl (inr j)) (λ (e : c ≡ x). inr e) (mem_last l x c k)

pub mem_without : (seq : ℕ) (l : List Copy) (c : Copy) → Mem c (without seq l) → Mem c l
unfolding without
mem_without seq [] c k = k
mem_without seq (x ∷ l) c k = go (eqb x.seq seq) k (mem_without seq l c)
  where
    go : (b : Bool) → Mem c (cond b (without seq l) (x ∷ without seq l)) → (Mem c (without seq l) → Mem c l) → (c ≡ x) ⊎ Mem c l
    go true j ih = inr (ih j)
    go false (inl e) ih = inl e
    go false (inr j) ih = inr (ih j)
