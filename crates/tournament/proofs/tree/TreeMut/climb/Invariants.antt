-- What is left of the climb gives what the whole climb gives. The measure is the node.
use Rattle.tournament.proofs.PathSteps.{Climb}
use Rattle.tournament.specs.Trees.{SameTables}
use Rattle.std.proofs.Common.{◌≡◌}
use Rattle.tournament.proofs.tree.TreeMut.climb.Given as goal

abbrev pub invariant-loop-node : goal.invariant-loop-node
invariant-loop-node l =
    Climb l.fn.self.win.now l.fn.self.dues.now l.fn.self.seqs.now l.leaves l.slot l.self.win.now l.node
    × (l.self.dues.now ≡ l.fn.self.dues.now) × (l.self.seqs.now ≡ l.fn.self.seqs.now) × SameTables l.fn.self l.self

abbrev pub decreases-loop-node : goal.decreases-loop-node
decreases-loop-node l = l.node
