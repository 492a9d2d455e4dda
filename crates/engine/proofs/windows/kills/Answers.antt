-- What `front` cuts are the counted entries.
use Rattle.std.proofs.Common.{arith}
use Rattle.steps.specs.Laws.Entries.{counted_entries}
use Rattle.engine.proofs.windows.kills.Goals as goal

pub returns-clause-counted : goal.returns-clause-counted
returns-clause-counted c = counted_entries _ _ _ (grind (arith, c.front.ensures))
