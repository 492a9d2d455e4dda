-- Each return is what the definition gives by the same test.
use Rattle.std.proofs.Common.{◌≡◌, true, sym, ◌∙◌}
use Rattle.accounts.specs.Counters.{are_counters, stats_counters}
use Rattle.accounts.specs.Calls.{record_delivered_of}
use Rattle.accounts.specs.Laws.Small.{small_stats}
use Rattle.accounts.proofs.stats.DirectionStats.record_delivered.Goals as goal
use Rattle.accounts.proofs.stats.DirectionStats.record_delivered.Goals.{Else-not-in_range}

pub returns-then-not-in_range : goal.returns-then-not-in_range
unfolding record_delivered_of
returns-then-not-in_range c = rw (← c.in_range.ensures, c.if-not-in_range.true)

counted : (c : Else-not-in_range) → are_counters (stats_counters c.args.self) ≡ true
counted c = sym c.in_range.ensures ∙ c.if-not-in_range.false

pub record-requires : goal.record-requires
record-requires c = rw c.from-recorded.ensures (small_stats c.args.self (counted (goal.at.record-requires c).Else-not-in_range)).latencies

pub returns : goal.returns
unfolding record_delivered_of
returns c = rw (counted (goal.at.returns c).Else-not-in_range, c.with_latencies.ensures, c.record.ensures, c.from-recorded.ensures)
