-- A pair that is stripped is one of those at the front.
use Rattle.std.proofs.Common.{◌∙◌, sym, ap}
use Rattle.args.specs.Arguments.{stripped}
use Rattle.args.specs.Laws.Dashes.{stripped_pair}
use Rattle.args.proofs.dashes.stripped.Goals as goal

pub loop-rest-preserved : goal.loop-rest-preserved
loop-rest-preserved c = c.loop-rest.invariant ∙ stripped_pair c.loop-rest.left.now c.in-Some.ensures.cases.0 ∙ ap stripped (sym c.in-Some.ensures.cases.1)
