-- The counters that refusal 25 judges, record by record.
use Rattle.std.specs.Prelude.{Bool, true, ◌&&◌, List, [], ◌∷◌, ℕ}
use Rattle.numbers.specs.Limits.{is_counter_of}
use Rattle.accounts.specs.declared.latency.LatencyStats.{LatencyStats}
use Rattle.accounts.specs.declared.accountant.SendAccountant.{SendAccountant}
use Rattle.accounts.specs.declared.stats.DirectionStats.{DirectionStats}
use Rattle.accounts.specs.Stats.{latencies_of}

-- the counters of each record
abbrev pub latency_counters : LatencyStats → List ℕ
latency_counters l = l.count ∷ l.hist

unfoldable pub accountant_counters : SendAccountant → List ℕ
accountant_counters a = a.sent_pkts ∷ a.sent_bytes ∷ a.dropped_overflow ∷ a.tcp_rst_kills ∷ a.nat_rebinds ∷ latency_counters a.latency

unfoldable pub stats_counters : DirectionStats → List ℕ
stats_counters s =
    s.received_pkts ∷ s.received_bytes ∷ s.sent_pkts ∷ s.sent_bytes ∷ s.dropped_random ∷ s.dropped_ge ∷ s.dropped_mtu ∷ s.dropped_blackout ∷ s.dropped_overflow ∷ s.duplicates ∷ s.reorder_hits ∷ s.rate_deferred ∷ s.nat_rebinds ∷ s.tcp_rst_kills ∷ latency_counters (latencies_of s)

-- whether each counter of a list is below the limit
abbrev pub are_counters : List ℕ → Bool
are_counters [] = true
are_counters (n ∷ ns) = is_counter_of n && are_counters ns
