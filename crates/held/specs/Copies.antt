-- The held list: the copies that are held, in the order in which they entered.
use Rattle.std.specs.Prelude.{◌≡◌, ◌⊎◌, false, cond, List, [], ◌∷◌, ℕ, eqb, Float}
use Rattle.std.specs.Float.Ieee.{le, is_nan}
use Rattle.held.specs.Order.{before_of}

-- a held copy (document 01, Records); its route is a u64, its copy id a u32
pub record Copy : Type 0 where
  pub due : Float
  pub seq : ℕ
  pub arrival : Float
  pub route : ℕ
  pub copy_id : ℕ
  pub length : ℕ
  pub bytes : List ℕ

abbrev pub copy : Float → ℕ → Float → ℕ → ℕ → ℕ → List ℕ → Copy
copy d s a r c n b = record { due = d; seq = s; arrival = a; route = r; copy_id = c; length = n; bytes = b }

-- the first by (due, seq) of a copy and those of a list
unfoldable pub least : Copy → List Copy → Copy
least c [] = c
least c (x ∷ xs) = least (cond (before_of x.due x.seq c.due c.seq) x c) xs

-- all but the copy with that seq
unfoldable pub without : ℕ → List Copy → List Copy
without seq [] = []
without seq (c ∷ l) = cond (eqb c.seq seq) (without seq l) (c ∷ without seq l)

-- a copy stands in a list
abbrev pub Mem : Copy → List Copy → Type 0
Mem c [] = ⊥
Mem c (x ∷ l) = (c ≡ x) ⊎ Mem c l

-- no due of a list is a NaN
abbrev pub NumberDues : List Copy → Type 0
NumberDues l = (c : Copy) → Mem c l → is_nan c.due ≡ false

-- ---- release: which copy leaves

-- the copies of a list whose due has come
unfoldable pub due_by : Float → List Copy → List Copy
due_by now [] = []
due_by now (c ∷ l) = cond (le c.due now) (c ∷ due_by now l) (due_by now l)

-- the copy that leaves, if one does
pub data Leaving : Type 0 where
  no_copy : Leaving
  one_copy : Copy → Leaving

-- the least of a list, if it has any
unfoldable pub least_in : List Copy → Leaving
least_in [] = no_copy
least_in (c ∷ l) = one_copy (least c l)

-- the copy that a release lets go (document 01, the plain machine): of those that are due the least
unfoldable pub leaving : Float → List Copy → Leaving
leaving now l = least_in (due_by now l)
