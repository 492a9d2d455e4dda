-- What the queue asks of the tree.
use Rattle.std.specs.Prelude.{Bool, cond, ◌&&◌, List, ℕ, ◌+◌, ltb, leb, Float, set}
use Rattle.numbers.specs.Limits.{max_capacity}
use Rattle.tournament.specs.Nodes.{slot_at_of}
use Rattle.tournament.specs.Paths.{carried_of, climbed_of}
use Rattle.tournament.specs.Growth.{Tree, tree, free_due, free_seq, widened_of}

-- a slot can enter: it has a leaf, or is the first that has none and is below the capacity
unfoldable pub fits_of : ℕ → ℕ → ℕ → Bool
fits_of cap n slot = leb cap max_capacity && leb n cap && ltb slot cap && leb slot n

-- the slot, which was free, has the key (due, seq)
unfoldable pub placed_of : Tree → ℕ → Float → ℕ → Tree
placed_of t slot due seq =
    tree t.leaves
    (climbed_of (set t.dues slot due) (set t.seqs slot seq) t.leaves (t.leaves + slot) t.win (t.leaves + slot) slot)
    (set t.dues slot due)
    (set t.seqs slot seq)

-- the slot enters, with a leaf if it had none
unfoldable pub enter_of : ℕ → ℕ → Float → ℕ → Tree → Tree
enter_of cap slot due seq t = cond (fits_of cap t.leaves slot) (placed_of (widened_of cap t.leaves slot t) slot due seq) t

-- the slot has the key of a free one
unfoldable pub freed_of : Tree → ℕ → Tree
freed_of t slot =
    tree t.leaves
    (carried_of (set t.dues slot free_due) (set t.seqs slot free_seq) t.leaves (t.leaves + slot) t.win (t.leaves + slot) slot)
    (set t.dues slot free_due)
    (set t.seqs slot free_seq)

unfoldable pub leave_of : ℕ → Tree → Tree
leave_of slot t = cond (ltb max_capacity t.leaves) t (cond (leb t.leaves slot) t (freed_of t slot))

-- the slot at the root
unfoldable pub least_of : List ℕ → ℕ → ℕ
least_of win n = slot_at_of win n 1
