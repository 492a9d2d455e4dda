-- A call that meets no refusal has passed every test, and what holds of its answer and of each refusal holds of what it gives.
use Rattle.std.specs.Prelude.{◌≡◌, refl, Bool, true, ◌<◌, Result, Ok, Err}
use Rattle.numbers.specs.Laws.Both.{both_true}
use Rattle.numbers.specs.Laws.Checks.{none_refused}
use Rattle.numbers.specs.Limits.{counter_limit, is_counter_of}
use Rattle.numbers.specs.Laws.Limits.{counter_below}
use Rattle.accounts.specs.Laws.Small.{SmallStats, small_stats}
use Rattle.accounts.specs.Counters.{are_counters, stats_counters}
use Rattle.numbers.specs.declared.refusal.Refusal.{Refusal}
use Rattle.engine.specs.Calls.{called}
use Rattle.engine.specs.Refusals.{engine_checks, counters_pass, judged_given_of}
use Rattle.engine.specs.declared.engine.ArrivalEngine.{ArrivalEngine}

pub record Passed (settings : Bool) (e : ArrivalEngine) (instant short : Bool) : Type 0 where
  pub settings_pass : settings ≡ true
  pub instant_passes : instant ≡ true
  pub length_passes : short ≡ true
  pub rebinds : is_counter_of e.rebinds_done ≡ true
  pub stats : are_counters (stats_counters e.stats) ≡ true

pub no_refusal : (settings : Bool) (e : ArrivalEngine) (instant short : Bool) → judged_given_of settings e instant short ≡ Ok tt → Passed settings e instant short
unfolding judged_given_of
no_refusal settings e instant short h =
    let checks = engine_checks settings instant short (counters_pass e) in
    let all = none_refused checks h in
    let counters = both_true (is_counter_of e.rebinds_done) (are_counters (stats_counters e.stats)) all.1.1.1.0 in
    record { settings_pass = all.0; instant_passes = all.1.0; length_passes = all.1.1.0; rebinds = counters.0; stats = counters.1 }

-- no counter of the engine is near 2 ^ 64
pub record Counted (e : ArrivalEngine) : Type 0 where
  pub rebinds : e.rebinds_done < counter_limit
  pub stats : SmallStats e.stats

pub counters_counted : (e : ArrivalEngine) → counters_pass e ≡ true → Counted e
counters_counted e h =
    let counters = both_true (is_counter_of e.rebinds_done) (are_counters (stats_counters e.stats)) h in
    record { rebinds = counter_below e.rebinds_done counters.0; stats = small_stats e.stats counters.1 }

pub called_has : {A : Type 0} (P : ArrivalEngine × Result A Refusal → Type 0) (r : Result (Unit {0}) Refusal) (e : ArrivalEngine) (after : ArrivalEngine × A)
    → (r ≡ Ok tt → P (after.0, Ok after.1)) → ((k : Refusal) → P (e, Err k)) → P (called r e after)
called_has P (Ok u) e after passed refused = passed refl
called_has P (Err k) e after passed refused = refused k
