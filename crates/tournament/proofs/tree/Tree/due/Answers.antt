-- The literal 0.0 is the float of the whole number 0.
use lib.Ieee.{of_bits, of_fields, of_int}
use Rattle.tournament.proofs.tree.Tree.due.Goals as goal

pub returns : goal.returns
unfolding of_bits of_fields of_int
returns c = c.get.ensures
