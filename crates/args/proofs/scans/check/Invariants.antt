-- The outcome of the text is the refusal among the arguments that are left.
use Rattle.std.proofs.Common.{◌≡◌}
use Rattle.args.specs.Arguments.{gathered}
use Rattle.args.specs.Left.{args_left}
use Rattle.args.proofs.ReadsGathered.{outcome_in}
use Rattle.args.proofs.scans.check.Given as goal

abbrev pub invariant-loop-read : goal.invariant-loop-read
invariant-loop-read l = (gathered l.text).outcome ≡ outcome_in (args_left l.read-iterator)
