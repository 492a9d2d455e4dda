-- The nodes of a tree with n leaves: 1 is the root, the children of k are 2k and 2k + 1, and n + s is the leaf of slot s.
use Rattle.std.specs.Prelude.{Bool, cond, List, ℕ, ◌+◌, ◌-◌, ◌*◌, ◌/◌, ltb, Float, get_or}
use Rattle.numbers.specs.Whole.{whole}
use Rattle.held.specs.Order.{before_of}

-- whether slot a's key is before slot b's
unfoldable pub less_of : List Float → List ℕ → ℕ → ℕ → Bool
less_of dues seqs a b = before_of (get_or dues a (whole 0)) (get_or seqs a 0) (get_or dues b (whole 0)) (get_or seqs b 0)

-- the slot at node c
unfoldable pub slot_at_of : List ℕ → ℕ → ℕ → ℕ
slot_at_of win n c = cond (ltb c n) (get_or win c 0) (c - n)

-- the better of node k's two children
unfoldable pub winner_of : List ℕ → List Float → List ℕ → ℕ → ℕ → ℕ
winner_of win dues seqs n k =
    cond (less_of dues seqs (slot_at_of win n (2 * k + 1)) (slot_at_of win n (2 * k)))
    (slot_at_of win n (2 * k + 1))
    (slot_at_of win n (2 * k))

-- the other child of node c's parent
abbrev pub sibling : ℕ → ℕ
sibling c = 4 * (c / 2) + 1 - c
