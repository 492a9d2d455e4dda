-- The bucket is one of the twelve, and neither the count nor the bucket overflows, since both are below 2 ^ 60.
use Rattle.std.proofs.Common.{◌<◌, arith}
use Rattle.accounts.specs.Laws.Counters.{counter_at, later_counters}
use Rattle.accounts.specs.Laws.Buckets.{bucket_within}
use Rattle.accounts.specs.Counters.{latency_counters}
use Rattle.accounts.specs.Latency.{counted_in, recorded_of}
use Rattle.accounts.proofs.latency.LatencyStats.record.Goals as goal
use Rattle.accounts.proofs.latency.LatencyStats.record.Goals.{After-bucket_index}

pub overflow_add-self : goal.overflow_add-self
overflow_add-self c = omega (arith, counter_at (latency_counters c.args.self.now) 0 c.requires)

inside : (c : After-bucket_index) → c.bucket_index.result < 12
inside c = rw c.bucket_index.ensures (bucket_within c.args.latency_ms)

pub offset_bounds-self-bucket_index : goal.offset_bounds-self-bucket_index
offset_bounds-self-bucket_index c = omega (arith, inside c)

pub bounds-self-bucket_index : goal.bounds-self-bucket_index
bounds-self-bucket_index c = inside (goal.at.bounds-self-bucket_index c).After-bucket_index

pub overflow_add-self-2 : goal.overflow_add-self-2
overflow_add-self-2 c = omega (arith, counter_at c.args.self.now.hist c.bucket_index.result (later_counters (latency_counters c.args.self.now) 1 c.requires))

pub bounds-self-bucket_index-2 : goal.bounds-self-bucket_index-2
bounds-self-bucket_index-2 c = inside (goal.at.bounds-self-bucket_index-2 c).After-bucket_index

pub returns : goal.returns
unfolding recorded_of counted_in
returns c = rw (c.bucket_index.ensures, c.maximum_with-self.ensures, c.minimum_with-self.ensures)
