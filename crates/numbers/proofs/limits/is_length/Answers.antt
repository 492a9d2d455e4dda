-- The test is the definition's.
use Rattle.std.proofs.Common.{refl}
use Rattle.numbers.specs.Limits.{is_length_of}
use Rattle.numbers.proofs.limits.is_length.Goals as goal

pub returns : goal.returns
unfolding is_length_of
returns c = refl
