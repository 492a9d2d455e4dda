-- A decimal is judged against 1.
use lib.Ieee.{of_int, of_bits}
use Rattle.values.specs.Decimal.{at_most_one}
use Rattle.values.proofs.decimal.parse_prob.Goals as goal

pub returns-then-x : goal.returns-then-x
unfolding at_most_one of_int of_bits
returns-then-x c = rw (← c.in_ok-x.ensures, c.if-x.true)

pub returns-else-x : goal.returns-else-x
unfolding at_most_one of_int of_bits
returns-else-x c = rw (← c.in_ok-x.ensures, c.if-x.false)
