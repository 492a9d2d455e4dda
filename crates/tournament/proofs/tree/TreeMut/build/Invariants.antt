-- Building from the next node on gives what the whole building gives.
use Rattle.std.proofs.Common.{◌≡◌, ◌-◌}
use Rattle.tournament.specs.Growth.{built_of}
use Rattle.tournament.specs.Trees.{SameTables}
use Rattle.tournament.proofs.tree.TreeMut.build.Given as goal

abbrev pub invariant-loop-node : goal.invariant-loop-node
invariant-loop-node l =
    (built_of l.fn.self.dues.now l.fn.self.seqs.now l.leaves (l.node - 1) l.self.win.now ≡ built_of l.fn.self.dues.now l.fn.self.seqs.now l.leaves (l.leaves - 1) l.fn.self.win.now)
    × (l.self.dues.now ≡ l.fn.self.dues.now) × (l.self.seqs.now ≡ l.fn.self.seqs.now) × SameTables l.fn.self l.self
