-- What a call that says it is done has done: a send counted one packet and one latency, in one bucket; a merge added every counter.
use Rattle.std.specs.Prelude.{◌≡◌, refl, ◌≢◌, Bool, true, false, ◌&&◌, ℕ, ◌+◌, length, get_or, Float, Ok}
use Rattle.numbers.specs.Limits.{is_length_of}
use Rattle.accounts.specs.declared.accountant.SendAccountant.{SendAccountant}
use Rattle.accounts.specs.declared.stats.DirectionStats.{DirectionStats}
use Rattle.accounts.specs.Buckets.{bucket_index_of}
use Rattle.accounts.specs.Latency.{recorded_of, sums}
use Rattle.accounts.specs.Accountant.{sent_of}
use Rattle.accounts.specs.Counters.{are_counters, accountant_counters, stats_counters}
use Rattle.accounts.specs.Calls.{on_send_of, merge_into_of}
use Rattle.accounts.specs.Laws.Histogram.{bucket_counts, others_stay}
use Rattle.accounts.specs.Laws.Calls.{send_done, send_length_refused, send_counter_refused, merge_done, merge_refused}
use Rattle.accounts.specs.Laws.Merged.{shared_counters, merged_counters}

-- after a send with the latency x
pub record CountsOne (before after : SendAccountant) (x : Float) : Type 0 where
  pub packets : after.sent_pkts ≡ before.sent_pkts + 1
  pub count : after.latency.count ≡ before.latency.count + 1
  pub bucket : get_or after.latency.hist (bucket_index_of x) 0 ≡ get_or before.latency.hist (bucket_index_of x) 0 + 1
  pub others : (i : ℕ) → i ≢ bucket_index_of x → get_or after.latency.hist i 0 ≡ get_or before.latency.hist i 0

sent_counts : (a : SendAccountant) (n : ℕ) (x : Float) → length a.latency.hist ≡ 12 → CountsOne a (sent_of a n x) x
unfolding sent_of recorded_of
sent_counts a n x twelve = record { packets = refl; count = refl; bucket = bucket_counts a.latency x twelve; others = others_stay a.latency x twelve }

pub send_counts_one : (a : SendAccountant) (n : ℕ) (x : Float) → length a.latency.hist ≡ 12 → (on_send_of a n x).1 ≡ Ok tt → CountsOne a (on_send_of a n x).0 x
send_counts_one a n x twelve h = go (is_length_of n) (are_counters (accountant_counters a)) refl refl
  where
    go : (fits counted : Bool) → is_length_of n ≡ fits → are_counters (accountant_counters a) ≡ counted → CountsOne a (on_send_of a n x).0 x
    go true true f c = rw (send_done a n x f c) (sent_counts a n x twelve)
    go true false f c = let e = rw (send_counter_refused a n x f c) at h in cc
    go false counted f c = let e = rw (send_length_refused a n x f) at h in cc

pub merge_adds : (a : SendAccountant) (s : DirectionStats) → (merge_into_of a s).1 ≡ Ok tt → stats_counters (merge_into_of a s).0 ≡ sums (stats_counters s) (shared_counters a)
merge_adds a s h = go (are_counters (accountant_counters a) && are_counters (stats_counters s)) refl
  where
    go : (counted : Bool) → (are_counters (accountant_counters a) && are_counters (stats_counters s)) ≡ counted → stats_counters (merge_into_of a s).0 ≡ sums (stats_counters s) (shared_counters a)
    go true c = rw (merge_done a s c) (merged_counters a s)
    go false c = let e = rw (merge_refused a s c) at h in cc
