-- The place that is found, or the length.
use Rattle.values.specs.Laws.Scan.{up_to_or}
use Rattle.values.proofs.bytes.up_to.Goals as goal

pub returns : goal.returns
returns c = rw (up_to_or, ← c.place_of.ensures) c.unwrap_or.ensures
