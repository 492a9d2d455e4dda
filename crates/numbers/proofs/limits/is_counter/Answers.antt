-- The test is the definition's.
use Rattle.std.proofs.Common.{refl}
use Rattle.numbers.specs.Limits.{is_counter_of}
use Rattle.numbers.proofs.limits.is_counter.Goals as goal

pub returns : goal.returns
unfolding is_counter_of
returns c = refl
