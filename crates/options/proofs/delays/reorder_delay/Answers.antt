-- What the last value is read as, or 0 where there is none.
use Rattle.std.proofs.Common.{rules}
use Rattle.numbers.specs.Laws.Literals.{zero_is}
use Rattle.options.specs.Directions.{reorder_delay_of}
use Rattle.options.proofs.delays.reorder_delay.Goals as goal

pub returns : goal.returns
unfolding reorder_delay_of
returns c = rw (← c.last.ensures, ← zero_is) (search rules)
