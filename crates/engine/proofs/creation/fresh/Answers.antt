-- Each field by the contract of what it is made with.
use lib.Ieee.{of_int, of_bits}
use Rattle.engine.specs.Engine.{fresh_of}
use Rattle.engine.proofs.creation.fresh.Goals as goal

pub returns : goal.returns
unfolding fresh_of of_int of_bits
returns c = rw (c.default.ensures, c.new.ensures, c.next_rebind.ensures, c.float_of.ensures, c.bucket_capacity-capacity.ensures)
