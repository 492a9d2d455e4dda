-- At first all arguments are left.
use Rattle.std.proofs.Common.{sym, ap, ◌∙◌}
use Rattle.args.specs.declared.arguments.Args.{Args}
use Rattle.args.specs.Arguments.{gathered}
use Rattle.args.proofs.ReadsGathered.{outcome_in, outcome_is, reads_from}
use Rattle.args.proofs.scans.check.Goals as goal

pub loop-read-init : goal.loop-read-init
loop-read-init c =
    let rest = ap (λ (a : Args). a.rest.now) c.into_iter-read-iterator.ensures.into_iter_gives ∙ c.new-read-items.ensures in
    sym (ap outcome_in (reads_from c.into_iter-read-iterator.result c.args.text.now rest) ∙ outcome_is (gathered c.args.text.now).items (gathered c.args.text.now).outcome)
