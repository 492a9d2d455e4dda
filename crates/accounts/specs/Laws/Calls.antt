-- When each call is done, and what it gives then; a refused one hands back what it was given.
use Rattle.std.specs.Prelude.{◌≡◌, true, false, ◌&&◌, ℕ, Float, Ok, Err}
use Rattle.numbers.specs.Limits.{is_length_of}
use Rattle.numbers.specs.declared.refusal.Refusal.TheVariants as refusal
use Rattle.accounts.specs.declared.accountant.SendAccountant.{SendAccountant}
use Rattle.accounts.specs.declared.stats.DirectionStats.{DirectionStats}
use Rattle.accounts.specs.Latency.{recorded_of}
use Rattle.accounts.specs.Stats.{latencies_of, with_latencies_of, total_of}
use Rattle.accounts.specs.Accountant.{sent_of, merged_of}
use Rattle.accounts.specs.Counters.{are_counters, accountant_counters, stats_counters}
use Rattle.accounts.specs.Calls.{on_send_of, record_delivered_of, total_dropped_of, merge_into_of}

module _ (a : SendAccountant) (n : ℕ) (x : Float) where
  pub send_done : is_length_of n ≡ true → are_counters (accountant_counters a) ≡ true → on_send_of a n x ≡ (sent_of a n x, Ok tt)
  unfolding on_send_of
  send_done fits counted = rw (fits, counted)

  pub send_length_refused : is_length_of n ≡ false → on_send_of a n x ≡ (a, Err refusal.Length)
  unfolding on_send_of
  send_length_refused long = rw long

  pub send_counter_refused : is_length_of n ≡ true → are_counters (accountant_counters a) ≡ false → on_send_of a n x ≡ (a, Err refusal.Counter)
  unfolding on_send_of
  send_counter_refused fits counted = rw (fits, counted)

module _ (a : SendAccountant) (s : DirectionStats) where
  pub merge_done : (are_counters (accountant_counters a) && are_counters (stats_counters s)) ≡ true → merge_into_of a s ≡ (merged_of a s, Ok tt)
  unfolding merge_into_of
  merge_done counted = rw counted

  pub merge_refused : (are_counters (accountant_counters a) && are_counters (stats_counters s)) ≡ false → merge_into_of a s ≡ (s, Err refusal.Counter)
  unfolding merge_into_of
  merge_refused counted = rw counted

module _ (s : DirectionStats) where
  pub delivered_done : (x : Float) → are_counters (stats_counters s) ≡ true → record_delivered_of s x ≡ (with_latencies_of s (recorded_of (latencies_of s) x), Ok tt)
  unfolding record_delivered_of
  delivered_done x counted = rw counted

  pub delivered_refused : (x : Float) → are_counters (stats_counters s) ≡ false → record_delivered_of s x ≡ (s, Err refusal.Counter)
  unfolding record_delivered_of
  delivered_refused x counted = rw counted

  pub total_told : are_counters (stats_counters s) ≡ true → total_dropped_of s ≡ Ok (total_of s)
  unfolding total_dropped_of
  total_told counted = rw counted

  pub total_refused : are_counters (stats_counters s) ≡ false → total_dropped_of s ≡ Err refusal.Counter
  unfolding total_dropped_of
  total_refused counted = rw counted
