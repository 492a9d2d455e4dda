-- The bound is a whole number.
use lib.Ieee.{of_int, of_bits}
use Rattle.judgement.proofs.setting.is_time.Goals as goal

pub returns : goal.returns
unfolding of_int of_bits
returns c = c.is_within.ensures
