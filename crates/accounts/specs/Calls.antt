-- What each call gives for any records and arguments: the record that comes back, and beside it that the call is done or why it is refused.
-- A refused call hands back the record that it was given. Refusals are tried in the order 22, 25.
use Rattle.std.specs.Prelude.{cond, not, ◌&&◌, ℕ, Float, Result, Ok, Err}
use Rattle.numbers.specs.Limits.{is_length_of}
use Rattle.numbers.specs.declared.refusal.Refusal.{Refusal}
use Rattle.numbers.specs.declared.refusal.Refusal.TheVariants as refusal
use Rattle.accounts.specs.declared.accountant.SendAccountant.{SendAccountant}
use Rattle.accounts.specs.declared.stats.DirectionStats.{DirectionStats}
use Rattle.accounts.specs.Latency.{recorded_of}
use Rattle.accounts.specs.Stats.{latencies_of, with_latencies_of, total_of}
use Rattle.accounts.specs.Accountant.{sent_of, merged_of}
use Rattle.accounts.specs.Counters.{are_counters, accountant_counters, stats_counters}

unfoldable pub on_send_of : SendAccountant → ℕ → Float → SendAccountant × Result (Unit {0}) Refusal
on_send_of a n x =
    cond (not (is_length_of n)) (a, Err refusal.Length)
    (cond (not (are_counters (accountant_counters a))) (a, Err refusal.Counter)
    (sent_of a n x, Ok tt))

unfoldable pub record_delivered_of : DirectionStats → Float → DirectionStats × Result (Unit {0}) Refusal
record_delivered_of s x =
    cond (not (are_counters (stats_counters s))) (s, Err refusal.Counter)
    (with_latencies_of s (recorded_of (latencies_of s) x), Ok tt)

unfoldable pub total_dropped_of : DirectionStats → Result ℕ Refusal
total_dropped_of s = cond (not (are_counters (stats_counters s))) (Err refusal.Counter) (Ok (total_of s))

-- the counters of both records are judged
unfoldable pub merge_into_of : SendAccountant → DirectionStats → DirectionStats × Result (Unit {0}) Refusal
merge_into_of a s =
    cond (not (are_counters (accountant_counters a) && are_counters (stats_counters s))) (s, Err refusal.Counter)
    (merged_of a s, Ok tt)
