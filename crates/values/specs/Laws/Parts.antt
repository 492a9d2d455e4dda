-- The first part and the parts behind it, and when there are three.
use Rattle.std.specs.Prelude.{◌≡◌, ℕ, suc, ◌<◌, ◌≤◌, Bool, true, false, cond, List, [], ◌∷◌, length, Option, Some, None, ◌==◌}
use Rattle.std.proofs.Math.Path.{refl}
use Rattle.std.proofs.Common.{◌∙◌, add-one, arith, lt-ltb, le-ltb}
use Rattle.std.proofs.Math.Dec.{leb-suc-suc}
use Rattle.std.specs.Option.{option_and_then}
use Rattle.values.specs.Bytes.{up_to, has, before_first, behind_first, split_once, colon}
use Rattle.values.specs.Parts.{onto, split, three, colons_of}

onto_cond : (x : ℕ) (t : Bool) (l s : List ℕ) (r : List (List ℕ)) → onto x (cond t (l ∷ r) (s ∷ [])) ≡ cond t ((x ∷ l) ∷ r) ((x ∷ s) ∷ [])
onto_cond x true l s r = refl
onto_cond x false l s r = refl

-- the first part, and the parts of what is behind it
abbrev parted : ℕ → List ℕ → List (List ℕ)
parted b s = cond (has b s) (before_first b s ∷ split b (behind_first b s)) (s ∷ [])

split_cons : (b x : ℕ) (s : List ℕ) (t : Bool) → (x == b) ≡ t → split b s ≡ parted b s → split b (x ∷ s) ≡ parted b (x ∷ s)
split_cons b x s true h ih = rw (h, lt-ltb 0 (suc (length s)) (omega arith))
split_cons b x s false h ih = rw (h, ih, onto_cond, leb-suc-suc, add-one, add-one)

split_at : (b : ℕ) (s : List ℕ) → split b s ≡ parted b s
split_at b [] = refl
split_at b (x ∷ s) = split_cons b x s (x == b) refl (split_at b s)

module _ {A : Type 0} (f : List ℕ → List ℕ → List ℕ → A) (other : A) where
  -- there are three parts, or there are not
  pub three_or : (P : A → Type 0) → ((a b c : List ℕ) → P (f a b c)) → P other → (l : List (List ℕ)) → P (three f other l)
  three_or P some none [] = none
  three_or P some none (a ∷ []) = none
  three_or P some none (a ∷ b ∷ []) = none
  three_or P some none (a ∷ b ∷ c ∷ []) = some a b c
  three_or P some none (a ∷ b ∷ c ∷ d ∷ l) = none

  more_onto : (a b c : List ℕ) (x : ℕ) (l : List (List ℕ)) → three f other (a ∷ b ∷ c ∷ onto x l) ≡ other
  more_onto a b c x [] = refl
  more_onto a b c x (p ∷ ps) = refl

  more_cond : (a b c : List ℕ) (x : ℕ) (t : Bool) (l r : List (List ℕ)) → three f other (a ∷ b ∷ c ∷ cond t ([] ∷ l) (onto x r)) ≡ other
  more_cond a b c x true l r = refl
  more_cond a b c x false l r = more_onto a b c x r

  more : (k : ℕ) (a b c s : List ℕ) → three f other (a ∷ b ∷ c ∷ split k s) ≡ other
  more k a b c [] = refl
  more k a b c (x ∷ s) = more_cond a b c x (x == k) (split k s) (split k s)

  -- three parts, from the text that follows each colon
  pub three_parts : (k : ℕ) (v w x : List ℕ) (s t u : Bool) → w ≡ behind_first k v → x ≡ behind_first k w → has k v ≡ s → has k w ≡ t → has k x ≡ u
      → three f other (split k v) ≡ cond s (cond t (cond u other (f (before_first k v) (before_first k w) x)) other) other
  three_parts k v w x false t u ew ex h i j = rw (split_at k v, h)
  three_parts k v w x true false u ew ex h i j = rw (split_at k v, h, ← ew, split_at k w, i)
  three_parts k v w x true true false ew ex h i j = rw (split_at k v, h, ← ew, split_at k w, i, ← ex, split_at k x, j)
  three_parts k v w x true true true ew ex h i j = rw (split_at k v, h, ← ew, split_at k w, i, ← ex, split_at k x, j, more k)

-- how many colons there are
module _ (v w x : List ℕ) (ew : w ≡ behind_first colon v) (ex : x ≡ behind_first colon w) where
  pub no_colon : length v ≤ up_to colon v → colons_of v ≡ None
  unfolding colons_of
  no_colon h = three_parts _ None colon v w x _ _ _ ew ex (le-ltb _ _ h) refl refl

  module _ (first : up_to colon v < length v) where
    pub one_colon : length w ≤ up_to colon w → colons_of v ≡ None
    unfolding colons_of
    one_colon h = three_parts _ None colon v w x _ _ _ ew ex (lt-ltb _ _ first) (le-ltb _ _ h) refl

    module _ (second : up_to colon w < length w) where
      pub two_colons : length x ≤ up_to colon x → colons_of v ≡ Some (before_first colon v, before_first colon w, x)
      unfolding colons_of
      two_colons h = three_parts _ None colon v w x _ _ _ ew ex (lt-ltb _ _ first) (lt-ltb _ _ second) (le-ltb _ _ h)

      pub more_colons : up_to colon x < length x → colons_of v ≡ None
      unfolding colons_of
      more_colons h = three_parts _ None colon v w x _ _ _ ew ex (lt-ltb _ _ first) (lt-ltb _ _ second) (lt-ltb _ _ h)

-- three parts, by one split and another
pub colons_split : (v : List ℕ) → colons_of v ≡ option_and_then (λ p. option_and_then (λ q. cond (has colon q.1) None (Some (p.0, q.0, q.1))) (split_once colon p.1)) (split_once colon v)
unfolding colons_of
colons_split v = three_parts _ None colon v _ _ _ _ _ refl refl refl refl refl ∙ at (has colon v) (has colon w) refl
  where
    w : List ℕ
    w = behind_first colon v

    first : Option (List ℕ × List ℕ)
    first = Some (before_first colon v, w)

    third : List ℕ → List ℕ → List ℕ → Option (List ℕ × List ℕ × List ℕ)
    third a b x = cond (has colon x) None (Some (a, b, x))

    at : (s t : Bool) → has colon w ≡ t → cond s (cond t (third (before_first colon v) (before_first colon w) (behind_first colon w)) None) None
        ≡ option_and_then (λ p. option_and_then (λ q. third p.0 q.0 q.1) (split_once colon p.1)) (cond s first None)
    at false t h = refl
    at true false h = rw h
    at true true h = rw h

-- what the three parts tell
abbrev pub parts_by : {A : Type 0} → (List ℕ → List ℕ → List ℕ → A) → A → Option (List ℕ × List ℕ × List ℕ) → A
parts_by f other (Some p) = f p.0 p.1 p.2
parts_by f other None = other

module _ {A : Type 0} (f : List ℕ → List ℕ → List ℕ → A) (other : A) (v : List ℕ) where
  told : (l : List (List ℕ)) → three f other l ≡ parts_by f other (three (λ a b c. Some (a, b, c)) None l)
  told [] = refl
  told (a ∷ []) = refl
  told (a ∷ b ∷ []) = refl
  told (a ∷ b ∷ c ∷ []) = refl
  told (a ∷ b ∷ c ∷ d ∷ l) = refl

  pub three_told : three f other (split colon v) ≡ parts_by f other (colons_of v)
  unfolding colons_of
  three_told = told (split colon v)
