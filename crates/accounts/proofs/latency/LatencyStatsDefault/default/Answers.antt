-- All fields are 0.
use mathlib.Core.Path.{refl}
use lib.Ieee.{of_bits, of_int}
use Rattle.accounts.specs.Latency.{no_latencies}
use Rattle.accounts.proofs.latency.LatencyStatsDefault.default.Goals as goal

pub returns : goal.returns
unfolding no_latencies of_int of_bits
returns c = refl
