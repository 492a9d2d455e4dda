-- The starred lines of specs/Lines.antt hold, each by computing.
use Rattle.std.specs.Prelude.{refl}
use Rattle.std.specs.Float.Ieee.{add, sub, mul, div, neg, lt, le, is_nan, of_int}
use Rattle.numbers.specs.Checks.{first_failing}
use Rattle.numbers.specs.Credit.{refilled_of, wait_of}
use Rattle.numbers.specs.Extremes.{chosen_of}
use Rattle.numbers.specs.Instant.{is_instant_of}
use Rattle.numbers.specs.Limits.{is_counter_of}
use Rattle.draws.specs.Lines.{draw_lines}
use Rattle.draws.specs.Mix.{mix_of, mix64_of}
use Rattle.draws.specs.Rng.{new_rng_of, step_of, output_of, fraction_of, next_f64_of}
use Rattle.accounts.specs.Accountant.{no_sends}
use Rattle.accounts.specs.Counters.{accountant_counters, stats_counters}
use Rattle.accounts.specs.Latency.{no_latencies}
use Rattle.accounts.specs.Lines.{account_lines}
use Rattle.accounts.specs.Stats.{no_stats, latencies_of}
use Rattle.options.specs.Config.{direction_with}
use Rattle.options.specs.Directions.{default_burst_of}
use Rattle.options.specs.Lines.{option_lines}
use Rattle.steps.specs.Arrival.{stopped_of, scheduled_of, from_mtu, from_ge, passed_of, arrived_of}
use Rattle.steps.specs.Bucket.{rate_capacity_of, bucket_capacity_of, charged_of, last_refill_of, is_deferred_of}
use Rattle.steps.specs.Burst.{burst_loss_of}
use Rattle.steps.specs.Chance.{chance_of}
use Rattle.steps.specs.Due.{jittered_of, reordered_of, waited_of, owed_of}
use Rattle.steps.specs.Gate.{kill_gate_of, any_window_of, gate_of}
use Rattle.steps.specs.Mtu.{exceeds_of}
use Rattle.engine.specs.Changes.{with_others, with_overflow}
use Rattle.engine.specs.Counts.{one_if, counts_of, counted_of}
use Rattle.engine.specs.Decide.{after_of, decide_passed_of}
use Rattle.engine.specs.Engine.{next_rebind_of, fresh_of, state_of, gate_at_of}
use Rattle.engine.specs.Lines.{arrival_lines}
use Rattle.machine.specs.Machine.{fresh_machine, in_range}
use Rattle.machine.specs.Steps.{unless, enter_copy, enter_copies, follow, arrive_step, step, answers, after_all}
use Rattle.machine.specs.Tally.{total}
use Rattle.machine.specs.Lines.{OverflowLines, StarredLines}

overflow_lines : OverflowLines
unfolding answers after_all step arrive_step unless first_failing follow enter_copies enter_copy total in_range direction_with fresh_machine fresh_of next_rebind_of new_rng_of no_stats no_sends no_latencies
    is_instant_of is_counter_of stats_counters latencies_of accountant_counters mix_of mix64_of with_overflow with_others
    decide_passed_of after_of counted_of counts_of one_if state_of gate_at_of gate_of kill_gate_of any_window_of
    arrived_of passed_of from_ge from_mtu scheduled_of stopped_of chance_of burst_loss_of exceeds_of charged_of refilled_of bucket_capacity_of rate_capacity_of default_burst_of last_refill_of
    is_deferred_of jittered_of reordered_of owed_of waited_of wait_of
    next_f64_of step_of output_of fraction_of chosen_of add sub mul div neg lt le is_nan of_int
overflow_lines = record { answered = refl; counted = refl; held = refl }

pub starred_lines : StarredLines
starred_lines = record { draws = draw_lines; options = option_lines; arrivals = arrival_lines; accounts = account_lines; overflow = overflow_lines }
