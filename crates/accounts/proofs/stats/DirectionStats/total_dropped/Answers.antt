-- Five counters below 2 ^ 60 add up below 2 ^ 64.
use Rattle.std.proofs.Common.{sym, ◌∙◌, arith}
use Rattle.accounts.specs.Stats.{total_of}
use Rattle.accounts.specs.Calls.{total_dropped_of}
use Rattle.accounts.specs.Laws.Small.{SmallStats, small_stats}
use Rattle.accounts.proofs.stats.DirectionStats.total_dropped.Goals as goal
use Rattle.accounts.proofs.stats.DirectionStats.total_dropped.Goals.{Else-not-in_range}

small : (c : Else-not-in_range) → SmallStats c.args.self.now
small c = small_stats c.args.self.now (sym c.in_range.ensures ∙ c.if-not-in_range.false)

pub returns-then-not-in_range : goal.returns-then-not-in_range
unfolding total_dropped_of
returns-then-not-in_range c = rw (← c.in_range.ensures, c.if-not-in_range.true)

pub overflow_add-result : goal.overflow_add-result
overflow_add-result c = omega (arith, small (goal.at.overflow_add-result c).Else-not-in_range)

pub overflow_add-result-2 : goal.overflow_add-result-2
overflow_add-result-2 c = omega (arith, small (goal.at.overflow_add-result-2 c).Else-not-in_range)

pub overflow_add-result-3 : goal.overflow_add-result-3
overflow_add-result-3 c = omega (arith, small (goal.at.overflow_add-result-3 c).Else-not-in_range)

pub overflow_add-result-4 : goal.overflow_add-result-4
overflow_add-result-4 c = omega (arith, small (goal.at.overflow_add-result-4 c).Else-not-in_range)

pub returns : goal.returns
unfolding total_dropped_of total_of
returns c = rw (← c.in_range.ensures, c.if-not-in_range.false)
