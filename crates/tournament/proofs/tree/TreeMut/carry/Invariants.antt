-- What is left of the path gives what the whole path gives, and beside the best slot stands its due. The measure is the node.
use Rattle.tournament.proofs.PathSteps.{Carry}
use Rattle.tournament.specs.Trees.{SameTables}
use Rattle.std.proofs.Common.{◌≡◌}
use Rattle.tournament.proofs.tree.TreeMut.carry.Given as goal

abbrev pub invariant-loop-node : goal.invariant-loop-node
invariant-loop-node l =
    Carry l.fn.self.win.now l.fn.self.dues.now l.fn.self.seqs.now l.leaves l.slot l.self.win.now l.node l.best
    × (l.self.dues.now ≡ l.fn.self.dues.now) × (l.self.seqs.now ≡ l.fn.self.seqs.now) × SameTables l.fn.self l.self

abbrev pub decreases-loop-node : goal.decreases-loop-node
decreases-loop-node l = l.node
