use Rattle.std.specs.Prelude.{◌≡◌, length}
use Rattle.std.proofs.Math.Seq.{paste}
use Rattle.tables.proofs.slots.copy.Given as goal

abbrev pub invariant-loop-i : goal.invariant-loop-i
invariant-loop-i l = (l.store ≡ paste l.initial.store l.start l.bytes l.i) × (length l.store ≡ length l.initial.store)
