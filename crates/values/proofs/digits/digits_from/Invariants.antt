-- What is left is read on from the number so far.
use Rattle.std.proofs.Common.{◌≡◌, ◌^◌, ◌<◌, drop}
use Rattle.values.specs.Whole.{digits_from}
use Rattle.values.proofs.digits.digits_from.Given as goal

abbrev pub invariant-loop-b : goal.invariant-loop-b
invariant-loop-b l = (digits_from l.n l.s ≡ digits_from l.value (drop l.b-index l.s)) × (l.value < 2 ^ 64)
