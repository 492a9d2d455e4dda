-- Never, in bits.
use lib.Ieee.{of_bits}
use borrow.Author.Tests.{le-ltb}
use Rattle.engine.specs.Engine.{next_rebind_of}
use Rattle.engine.proofs.creation.next_rebind.Goals as goal

pub returns-else-nat_change_every_ms-gt0 : goal.returns-else-nat_change_every_ms-gt0
unfolding next_rebind_of of_bits
returns-else-nat_change_every_ms-gt0 c = rw (le-ltb _ _ c.if-nat_change_every_ms-gt0.false)
