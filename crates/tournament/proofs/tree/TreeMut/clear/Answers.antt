-- The two stores of a turn, by their contracts; the constant of the code is the due of a free slot.
use Rattle.std.proofs.Common.{ap, ◌∙◌, ◌+◌, List, ℕ}
use Rattle.std.specs.Prelude.{Float}
use lib.Ieee.{of_bits, of_fields}
use Rattle.tournament.specs.Growth.{free_due, free_seq, free_dues, free_seqs}
use Rattle.tournament.proofs.GrowthSteps.{set_all_turn, set_all_done}
use Rattle.tournament.proofs.tree.TreeMut.clear.Goals as goal

pub loop-i-preserved : goal.loop-i-preserved
unfolding of_bits of_fields
loop-i-preserved c =
    let inv = c.loop-i.invariant in
    let i = c.loop-i.i in
    let to = c.args.to in (
      ap (λ (l : List Float). free_dues (i + 1) to l) c.set.ensures ∙ set_all_turn free_due i to c.loop-i.self.dues.now c.loop-i-test.true ∙ inv.0,
      ap (λ (l : List ℕ). free_seqs (i + 1) to l) c.set-in-loop-i.ensures ∙ set_all_turn free_seq i to c.loop-i.self.seqs.now c.loop-i-test.true ∙ inv.1,
      inv.2,
      inv.3,
    )

pub returns-clause-made : goal.returns-clause-made
returns-clause-made c =
    let inv = c.loop-i.invariant in
    rw (← inv.0, ← inv.1, ← inv.2, set_all_done free_due _ _ c.loop-i.self.dues.now c.loop-i-test.false, set_all_done free_seq _ _ c.loop-i.self.seqs.now c.loop-i-test.false)
