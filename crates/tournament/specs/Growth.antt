-- How the tree grows: the new leaves have the key of a free slot, and every node is made anew.
use Rattle.std.specs.Prelude.{false, cond, List, ℕ, zero, suc, ◌+◌, ◌-◌, ◌*◌, min, max, ltb, Float, set}
use Rattle.std.specs.Float.{inf}
use Rattle.tournament.specs.Nodes.{winner_of}

-- the key of a slot that holds no copy: no copy's seq is so great
abbrev pub free_due : Float
free_due = inf false

abbrev pub free_seq : ℕ
free_seq = 18446744073709551615

-- a value at each of the n indices from i on
unfoldable pub set_all {ℓ} : {A : Type ℓ} → A → ℕ → ℕ → List A → List A
set_all x i zero l = l
set_all x i (suc n) l = set_all x (i + 1) n (set l i x)

-- the keys of the slots from n on and below m
abbrev pub free_dues : ℕ → ℕ → List Float → List Float
free_dues n m dues = set_all free_due n (m - n) dues

abbrev pub free_seqs : ℕ → ℕ → List ℕ → List ℕ
free_seqs n m seqs = set_all free_seq n (m - n) seqs

-- the nodes k, .., 1 made the better of their children, in that order
unfoldable pub built_of : List Float → List ℕ → ℕ → ℕ → List ℕ → List ℕ
built_of dues seqs n zero win = win
built_of dues seqs n (suc k) win = built_of dues seqs n k (set win (suc k) (winner_of win dues seqs n (suc k)))

-- a tree: the number of its leaves, its nodes, and the keys of the slots
pub record Tree : Type 0 where
  pub leaves : ℕ
  pub win : List ℕ
  pub dues : List Float
  pub seqs : List ℕ

abbrev pub tree : ℕ → List ℕ → List Float → List ℕ → Tree
tree n win dues seqs = record { leaves = n; win = win; dues = dues; seqs = seqs }

-- from n leaves to m
unfoldable pub grown_of : ℕ → ℕ → List ℕ → List Float → List ℕ → Tree
grown_of n m win dues seqs = tree m (built_of (free_dues n m dues) (free_seqs n m seqs) m (m - 1) win) (free_dues n m dues) (free_seqs n m seqs)

-- twice the leaves, 16 at the least and the capacity at the most
abbrev pub leaves_for : ℕ → ℕ → ℕ
leaves_for cap n = min cap (max 16 (2 * n))

-- the tree with a leaf for the slot
unfoldable pub widened_of : ℕ → ℕ → ℕ → Tree → Tree
widened_of cap n slot t = cond (ltb slot n) t (grown_of n (leaves_for cap n) t.win t.dues t.seqs)
