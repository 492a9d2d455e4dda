-- The starred lines about arrivals (document 01, "Lines to check"), as theorems about the definitions.
use Rattle.std.specs.Prelude.{◌≡◌, refl, false, Float, Some, None, Result, Ok}
use Rattle.std.specs.Float.Ieee.{add, sub, mul, div, neg, lt, le, is_nan, of_int}
use Rattle.numbers.specs.declared.refusal.Refusal.{Refusal}
use Rattle.numbers.specs.Digits.{decimal_value}
use Rattle.numbers.specs.Checks.{first_refusal}
use Rattle.numbers.specs.Credit.{refilled_of, wait_of}
use Rattle.numbers.specs.Extremes.{chosen_of}
use Rattle.numbers.specs.Instant.{is_instant_of}
use Rattle.numbers.specs.Limits.{is_length_of, is_counter_of}
use Rattle.numbers.specs.Whole.{whole}
use Rattle.draws.specs.Rng.{new_rng_of, step_of, output_of, fraction_of, next_f64_of}
use Rattle.accounts.specs.Counters.{stats_counters}
use Rattle.accounts.specs.Stats.{no_stats, latencies_of}
use Rattle.judgement.specs.Settings.{is_settings_of}
use Rattle.options.specs.Config.{direction_with}
use Rattle.options.specs.Directions.{default_burst_of}
use Rattle.steps.specs.Arrival.{stopped_of, scheduled_of, from_mtu, from_ge, passed_of, arrived_of}
use Rattle.steps.specs.Bucket.{rate_capacity_of, bucket_capacity_of, charged_of, last_refill_of, is_deferred_of}
use Rattle.steps.specs.Burst.{burst_loss_of}
use Rattle.steps.specs.Chance.{chance_of}
use Rattle.steps.specs.Due.{jittered_of, reordered_of, waited_of, owed_of}
use Rattle.steps.specs.Gate.{kill_gate_of, any_window_of, gate_of}
use Rattle.steps.specs.Mtu.{exceeds_of}
use Rattle.steps.specs.declared.decision.Decision.{Decision}
use Rattle.steps.specs.declared.decision.Decision.TheVariants.{DropRandom, DropMtu, Enqueue}
use Rattle.judgement.specs.Scalars.{are_scalars_of}
use Rattle.engine.specs.Calls.{new_engine_of, decide_given_of, decide_of}
use Rattle.engine.specs.Counts.{one_if, counts_of, counted_of}
use Rattle.engine.specs.Decide.{after_of, decide_passed_of}
use Rattle.engine.specs.Engine.{next_rebind_of, fresh_of, state_of, gate_at_of}
use Rattle.engine.specs.Refusals.{judged_given_of}
use Rattle.engine.specs.declared.engine.ArrivalEngine.{ArrivalEngine}

-- engines with the generator's seed 1
abbrev lossy : Float → ArrivalEngine
lossy p = (new_engine_of (direction_with p (whole 0) None None) 1).0

abbrev narrow : ArrivalEngine
narrow = (new_engine_of (direction_with (whole 0) (whole 0) None (Some 1500)) 1).0

abbrev limited : ArrivalEngine
limited = (new_engine_of (direction_with (whole 0) (whole 0) (Some 8000) None) 1).0

-- three arrivals at one engine
abbrev first : ArrivalEngine × Result Decision Refusal
first = decide_of limited (whole 0) 1500

abbrev second : ArrivalEngine × Result Decision Refusal
second = decide_of first.0 (whole 0) 500

abbrev third : ArrivalEngine × Result Decision Refusal
third = decide_of second.0 (whole 250) 0

pub record ArrivalLines : Type 0 where
  -- a loss of 0.25 lets the first packet of seed 1 through: it is enqueued at once
  pub quarter_passes : (decide_of (lossy (decimal_value 25 2)) (whole 0) 100).1 ≡ Ok (Enqueue (whole 0) false)
  -- a loss of 0.3 drops it
  pub three_tenths_drop : (decide_of (lossy (decimal_value 3 1)) (whole 0) 100).1 ≡ Ok DropRandom
  -- under an MTU of 1500 a packet of as many bytes passes, and one of a byte more does not
  pub mtu_passes : (decide_of narrow (whole 0) 1500).1 ≡ Ok (Enqueue (whole 0) false)
  pub mtu_drops : (decide_of narrow (whole 0) 1501).1 ≡ Ok DropMtu
  -- a rate of 8000 has the least burst for its capacity
  pub capacity : bucket_capacity_of (Some 8000) 0 ≡ 1500
  -- at 0 a packet of 1500 bytes takes all the credit
  pub at_once : first.1 ≡ Ok (Enqueue (whole 0) false)
  -- at 0 one of 500 waits for half a second of the rate
  pub in_debt : second.1 ≡ Ok (Enqueue (whole 500) false)
  -- at 250 half of that is still owed
  pub still_in_debt : third.1 ≡ Ok (Enqueue (whole 500) false)

pub arrival_lines : ArrivalLines
unfolding new_engine_of fresh_of next_rebind_of new_rng_of no_stats direction_with is_settings_of are_scalars_of decide_given_of judged_given_of first_refusal is_instant_of is_length_of is_counter_of stats_counters latencies_of
    decide_passed_of after_of counted_of counts_of one_if state_of gate_at_of gate_of kill_gate_of any_window_of
    arrived_of passed_of from_ge from_mtu scheduled_of stopped_of chance_of burst_loss_of exceeds_of charged_of refilled_of bucket_capacity_of rate_capacity_of default_burst_of last_refill_of
    is_deferred_of jittered_of reordered_of owed_of waited_of wait_of
    next_f64_of step_of output_of fraction_of chosen_of decimal_value add sub mul div neg lt le is_nan of_int
arrival_lines = record { quarter_passes = refl; three_tenths_drop = refl; mtu_passes = refl; mtu_drops = refl; capacity = refl; at_once = refl; in_debt = refl; still_in_debt = refl }
