-- The count does not overflow, since both are below 2 ^ 60.
use Rattle.std.proofs.Common.{arith}
use Rattle.accounts.specs.Laws.Counters.{counter_at}
use Rattle.accounts.specs.Counters.{latency_counters}
use Rattle.accounts.proofs.joining.joined.Goals as goal

pub overflow_add-result : goal.overflow_add-result
overflow_add-result c = omega (arith, counter_at (latency_counters c.args.target.now) 0 c.requires.0, counter_at (latency_counters c.args.l.now) 0 c.requires.1)
