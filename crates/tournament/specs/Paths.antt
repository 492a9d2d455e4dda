-- The path from a node to the root, each node of it made anew. `fuel` bounds the nodes.
use Rattle.std.specs.Prelude.{cond, List, ℕ, zero, suc, ◌/◌, ltb, Float, set}
use Rattle.tournament.specs.Nodes.{less_of, slot_at_of, sibling}

-- the better of slot w and the one at node c's sibling
unfoldable pub better_of : List Float → List ℕ → ℕ → List ℕ → ℕ → ℕ → ℕ
better_of dues seqs n win c w = cond (less_of dues seqs (slot_at_of win n (sibling c)) w) (slot_at_of win n (sibling c)) w

-- w is the winner at node c: each node above gets the winner
unfoldable pub carried_of : List Float → List ℕ → ℕ → ℕ → List ℕ → ℕ → ℕ → List ℕ
carried_of dues seqs n zero win c w = win
carried_of dues seqs n (suc fuel) win c w =
    cond (ltb 1 c) (carried_of dues seqs n fuel (set win (c / 2) (better_of dues seqs n win c w)) (c / 2) (better_of dues seqs n win c w)) win

-- s is the winner at node c: so it is at each node above, up to the first at which the sibling's slot is before it
unfoldable pub climbed_of : List Float → List ℕ → ℕ → ℕ → List ℕ → ℕ → ℕ → List ℕ
climbed_of dues seqs n zero win c s = win
climbed_of dues seqs n (suc fuel) win c s =
    cond (ltb 1 c) (cond (less_of dues seqs (slot_at_of win n (sibling c)) s) win (climbed_of dues seqs n fuel (set win (c / 2) s) (c / 2) s)) win
