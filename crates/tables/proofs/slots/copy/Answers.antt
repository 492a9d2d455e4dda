use Rattle.std.proofs.Common.{arith, length-set}
use Rattle.std.proofs.lemmas.List.Edits.{paste_more}
use Rattle.tables.proofs.slots.copy.Goals as goal

pub loop-i-preserved : goal.loop-i-preserved
loop-i-preserved c =
    let inv = c.loop-i.invariant in
    (rw inv.0 (paste_more c.args.store.now c.args.start c.args.bytes.now c.loop-i.i 0 (omega (arith, inv.1)) c.loop-i-test.true), simp length-set inv.1)
