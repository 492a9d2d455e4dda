-- 53 bits are a whole number that a float holds, and 1 over 2 ^ 53 is the power of the definition.
use lib.Ieee.{div, of_bits}
use Rattle.draws.specs.Rng.{next_u64_of, next_f64_of, fraction_of}
use Rattle.draws.proofs.rng.Rng.next_f64.Goals as goal

pub returns : goal.returns
unfolding next_f64_of next_u64_of fraction_of div of_bits
returns c = rw c.next_u64-value.ensures
