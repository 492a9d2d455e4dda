-- The key without its pairs is what is left without its pairs.
use Rattle.std.proofs.Common.{◌≡◌, length}
use Rattle.args.specs.Arguments.{stripped}
use Rattle.args.proofs.dashes.stripped.Given as goal

abbrev pub invariant-loop-rest : goal.invariant-loop-rest
invariant-loop-rest l = stripped l.k ≡ stripped l.left

abbrev pub decreases-loop-rest : goal.decreases-loop-rest
decreases-loop-rest l = length l.left
