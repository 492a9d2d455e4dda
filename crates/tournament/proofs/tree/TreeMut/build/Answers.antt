-- The node of a turn, by the contract of `winner`.
use Rattle.std.proofs.Common.{◌≡◌, ◌-◌, arith}
use Rattle.tournament.specs.Nodes.{winner_of}
use Rattle.tournament.specs.Growth.{tree}
use Rattle.tournament.proofs.GrowthSteps.{built_turn, built_done}
use Rattle.tournament.proofs.tree.TreeMut.build.Goals as goal

pub loop-node-preserved : goal.loop-node-preserved
loop-node-preserved c =
    let inv = c.loop-node.invariant in
    let t = c.args.self.now in
    let best : c.winner-best.result ≡ winner_of c.loop-node.self.win.now t.dues.now t.seqs.now c.args.leaves (c.loop-node.node - 1) = cc in
    (built_turn _ _ _ _ _ _ _ _ (omega arith) best c.set.ensures inv.0, inv.1, inv.2, inv.3)

pub returns-clause-made : goal.returns-clause-made
returns-clause-made c =
    let inv = c.loop-node.invariant in
    let win = built_done _ _ _ _ _ _ (omega arith) inv.0 in
    λ i. tree c.args.leaves (win i) (inv.1 i) (inv.2 i)
