-- Up to 2 ^ 53 the conversion is exact, above it the library's is the nearest.
use Rattle.std.proofs.Common.{arith, le→leb}
use lib.Ieee.{in_float}
use Rattle.numbers.proofs.whole.float_of.Goals as goal

pub int_to_float-result : goal.int_to_float-result
unfolding in_float
int_to_float-result c = omega (arith, le→leb)
