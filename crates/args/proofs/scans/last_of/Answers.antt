-- The last value that is left at first.
use Rattle.std.proofs.Common.{ap, ◌∙◌}
use Rattle.args.specs.Arguments.{last_from, last_value_of}
use Rattle.std.specs.Prelude.{None}
use Rattle.args.proofs.LastYielded.{last_yielded}
use Rattle.args.proofs.scans.last_of.Goals as goal

pub returns : goal.returns
unfolding last_value_of
returns c = last_yielded c.last.result c.new.result c.last.ensures.ran ∙ ap (last_from None) c.new.ensures
