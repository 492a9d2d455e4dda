-- Each turn and return by its step: the sibling's slot and the test of its key are those of the definition.
use Rattle.std.proofs.Common.{◌≡◌}
use Rattle.tournament.specs.Nodes.{slot_at_of, less_of, sibling}
use Rattle.tournament.specs.Growth.{tree}
use Rattle.tournament.proofs.PathSteps.{climb_done, climb_stop, climb_turn}
use Rattle.tournament.proofs.tree.TreeMut.climb.Goals as goal

pub loop-node-preserved : goal.loop-node-preserved
unfolding less_of
loop-node-preserved c =
    let inv = c.loop-node.invariant in
    let t = c.args.self.now in
    let less : c.before-in-loop-node.result ≡ less_of t.dues.now t.seqs.now (slot_at_of c.loop-node.self.win.now c.args.leaves (sibling c.loop-node.node)) c.args.slot = cc in
    (climb_turn _ _ _ _ _ _ _ inv.0 _ _ c.loop-node-test.true less c.if-before.false c.set.ensures, inv.1, inv.2, inv.3)

pub returns-then-before-clause-made : goal.returns-then-before-clause-made
unfolding less_of
returns-then-before-clause-made c =
    let inv = c.loop-node.invariant in
    let t = c.args.self.now in
    let less : c.before-in-loop-node.result ≡ less_of t.dues.now t.seqs.now (slot_at_of c.loop-node.self.win.now c.args.leaves (sibling c.loop-node.node)) c.args.slot = cc in
    let win = climb_stop _ _ _ _ _ _ _ inv.0 _ c.loop-node-test.true less c.if-before.true in
    λ i. tree c.args.leaves (win i) (inv.1 i) (inv.2 i)

pub returns-clause-made : goal.returns-clause-made
returns-clause-made c =
    let inv = c.loop-node.invariant in
    let win = climb_done _ _ _ _ _ _ _ inv.0 c.loop-node-test.false in
    λ i. tree c.args.leaves (win i) (inv.1 i) (inv.2 i)
