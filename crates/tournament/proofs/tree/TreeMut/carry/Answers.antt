-- Each turn and return by its step: the sibling's slot, its due and the test of its key are those of the definition.
use Rattle.std.proofs.Common.{◌≡◌}
use Rattle.std.specs.Prelude.{get_or}
use Rattle.numbers.specs.Whole.{whole}
use Rattle.held.specs.Order.{before_of}
use Rattle.tournament.specs.Nodes.{slot_at_of, less_of, sibling}
use Rattle.tournament.specs.Growth.{tree}
use Rattle.tournament.proofs.PathSteps.{carry_done, carry_turn}
use Rattle.tournament.proofs.tree.TreeMut.carry.Goals as goal

pub loop-node-preserved : goal.loop-node-preserved
unfolding less_of
loop-node-preserved c =
    let inv = c.loop-node.invariant in
    let t = c.args.self.now in
    let other : c.sibling_slot-other.result ≡ slot_at_of c.loop-node.self.win.now c.args.leaves (sibling c.loop-node.node) = cc in
    let due : c.due-in-loop-node.result ≡ get_or t.dues.now c.sibling_slot-other.result (whole 0) = cc in
    let key = inv.0.key in
    let less : before_of c.due-in-loop-node.result (get_or c.shared-tree.result.seqs.now c.sibling_slot-other.result 0) c.loop-node.best.1 (get_or c.shared-tree.result.seqs.now c.loop-node.best.0 0)
    ≡ less_of t.dues.now t.seqs.now (slot_at_of c.loop-node.self.win.now c.args.leaves (sibling c.loop-node.node)) c.loop-node.best.0 = cc in
    (carry_turn _ _ _ _ _ _ _ _ inv.0 _ _ _ _ c.loop-node-test.true other due less c.better-best.ensures c.set.ensures, inv.1, inv.2, inv.3)

pub returns-clause-made : goal.returns-clause-made
returns-clause-made c =
    let inv = c.loop-node.invariant in
    let win = carry_done _ _ _ _ _ _ _ _ inv.0 c.loop-node-test.false in
    λ i. tree c.args.leaves (win i) (inv.1 i) (inv.2 i)
