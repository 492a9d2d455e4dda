-- Storing from the next slot on gives what was to store, in both tables.
use Rattle.std.proofs.Common.{◌≡◌}
use Rattle.tournament.specs.Growth.{free_dues, free_seqs}
use Rattle.tournament.specs.Trees.{SameTables}
use Rattle.tournament.proofs.tree.TreeMut.clear.Given as goal

abbrev pub invariant-loop-i : goal.invariant-loop-i
invariant-loop-i l =
    (free_dues l.i l.to l.self.dues.now ≡ free_dues l.from l.to l.fn.self.dues.now) × (free_seqs l.i l.to l.self.seqs.now ≡ free_seqs l.from l.to l.fn.self.seqs.now)
    × (l.self.win.now ≡ l.fn.self.win.now) × SameTables l.fn.self l.self
