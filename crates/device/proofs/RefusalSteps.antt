-- What a call that meets no refusal has passed.
use Rattle.std.proofs.Common.{◌≡◌, Bool, true, Ok}
use Rattle.numbers.specs.Laws.Both.{both_true}
use Rattle.numbers.specs.Laws.Checks.{none_refused}
use Rattle.numbers.specs.Limits.{is_counter_of}
use Rattle.accounts.specs.Counters.{are_counters, accountant_counters, stats_counters}
use Rattle.engine.specs.Refusals.{counters_pass}
use Rattle.machine.specs.Machine.{in_range}
use Rattle.device.specs.Refusals.{device_checks, call_refusal}
use Rattle.device.specs.declared.device.Device.{Device}

pub record Passed (v : Device) (instant short : Bool) : Type 0 where
  pub instant_passes : instant ≡ true
  pub length_passes : short ≡ true
  pub engine : counters_pass v.engine ≡ true
  pub stats : are_counters (stats_counters v.engine.stats) ≡ true
  pub accounts : are_counters (accountant_counters v.accounts) ≡ true
  pub torn : is_counter_of v.torn ≡ true

pub no_refusal : (v : Device) (memory instant short : Bool) → call_refusal v memory instant short ≡ Ok tt → Passed v instant short
unfolding call_refusal in_range
no_refusal v memory instant short h =
    let all = none_refused (device_checks memory instant short (in_range v.engine v.accounts v.torn v.queue.next_seq)) h in
    let seq = both_true _ (is_counter_of v.queue.next_seq) all.1.1.1.0 in
    let torn = both_true _ (is_counter_of v.torn) seq.0 in
    let accounts = both_true (counters_pass v.engine) (are_counters (accountant_counters v.accounts)) torn.0 in
    let stats = both_true (is_counter_of v.engine.rebinds_done) (are_counters (stats_counters v.engine.stats)) accounts.0 in
    record { instant_passes = all.1.0; length_passes = all.1.1.0; engine = accounts.0; stats = stats.1; accounts = accounts.1; torn = torn.1 }
