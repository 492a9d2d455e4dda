-- Merging adds every counter of the accountant to the target's counter of the same name, and leaves the target's other counters as they are.
use Rattle.std.specs.Prelude.{◌≡◌, List, ◌∷◌, ℕ}
use Rattle.std.proofs.Common.{add-zero}
use Rattle.accounts.specs.declared.accountant.SendAccountant.{SendAccountant}
use Rattle.accounts.specs.declared.stats.DirectionStats.{DirectionStats}
use Rattle.accounts.specs.Latency.{sums, joined_of}
use Rattle.accounts.specs.Stats.{latencies_of, with_latencies_of}
use Rattle.accounts.specs.Accountant.{with_sends, merged_of}
use Rattle.accounts.specs.Counters.{latency_counters, stats_counters}

-- the accountant's counters in the places of the target's, 0 where it has none
unfoldable pub shared_counters : SendAccountant → List ℕ
shared_counters a =
    0 ∷ 0 ∷ a.sent_pkts ∷ a.sent_bytes ∷ 0 ∷ 0 ∷ 0 ∷ 0 ∷ a.dropped_overflow ∷ 0 ∷ 0 ∷ 0 ∷ a.nat_rebinds ∷ a.tcp_rst_kills ∷ latency_counters a.latency

pub merged_counters : (a : SendAccountant) (s : DirectionStats) → stats_counters (merged_of a s) ≡ sums (stats_counters s) (shared_counters a)
unfolding stats_counters shared_counters merged_of with_sends with_latencies_of latencies_of joined_of
merged_counters a s = rw (add-zero s.received_pkts, add-zero s.received_bytes, add-zero s.dropped_random, add-zero s.dropped_ge, add-zero s.dropped_mtu, add-zero s.dropped_blackout, add-zero s.duplicates, add-zero s.reorder_hits, add-zero s.rate_deferred)
