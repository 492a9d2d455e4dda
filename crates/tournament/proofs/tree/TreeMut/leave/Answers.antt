-- The two stores and the path, by their contracts; the constant of the code is the due of a free slot.
use borrow.Author.Tests.{le-ltb, lt-leb}
use lib.Ieee.{of_bits, of_fields}
use Rattle.tournament.specs.Calls.{leave_of, freed_of}
use Rattle.tournament.proofs.tree.TreeMut.leave.Goals as goal

pub returns-clause-made : goal.returns-clause-made
unfolding leave_of freed_of of_bits of_fields
returns-clause-made c = rw (le-ltb _ _ c.if-leaves-gt-MAX_CAPACITY.false, lt-leb _ _ c.if-leaves-slot.false, c.carry.ensures.made, c.set.ensures, c.set-2.ensures)
