-- All fields are 0.
use mathlib.Core.Path.{refl}
use lib.Ieee.{of_bits, of_int}
use Rattle.accounts.specs.Stats.{no_stats}
use Rattle.accounts.proofs.stats.DirectionStatsDefault.default.Goals as goal

pub returns : goal.returns
unfolding no_stats of_int of_bits
returns c = refl
