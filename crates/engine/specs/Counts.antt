-- Step 1 of an arrival (document 01, "Arrival engine"), and how each decision is counted: a kill that holds as a blackout, and a reset not here.
use Rattle.std.specs.Prelude.{Bool, cond, ℕ, ◌+◌}
use Rattle.accounts.specs.declared.stats.DirectionStats.{DirectionStats}
use Rattle.steps.specs.declared.arrival.Arrival.{Arrival}
use Rattle.steps.specs.declared.decision.Decision.{Decision}
use Rattle.steps.specs.declared.decision.Decision.TheVariants.{DropRandom, DropGe, DropMtu, DropBlackout, DropKillHold, Enqueue, KillRst}
use Rattle.engine.specs.declared.counts.DecisionCounts.{DecisionCounts}

unfoldable pub one_if : Bool → ℕ
one_if b = cond b 1 0

unfoldable pub counts_of : Decision → DecisionCounts
counts_of DropRandom = record { random = 1; ge = 0; mtu = 0; blackout = 0; duplicates = 0 }
counts_of DropGe = record { random = 0; ge = 1; mtu = 0; blackout = 0; duplicates = 0 }
counts_of DropMtu = record { random = 0; ge = 0; mtu = 1; blackout = 0; duplicates = 0 }
counts_of DropBlackout = record { random = 0; ge = 0; mtu = 0; blackout = 1; duplicates = 0 }
counts_of DropKillHold = record { random = 0; ge = 0; mtu = 0; blackout = 1; duplicates = 0 }
counts_of (Enqueue due duplicate) = record { random = 0; ge = 0; mtu = 0; blackout = 0; duplicates = one_if duplicate }
counts_of KillRst = record { random = 0; ge = 0; mtu = 0; blackout = 0; duplicates = 0 }

-- the statistics with one packet more of len bytes
unfoldable pub counted_of : DirectionStats → ℕ → Arrival → DirectionStats
counted_of s len a =
    let c = counts_of a.decision in
    record {
      received_pkts = s.received_pkts + 1;
      received_bytes = s.received_bytes + len;
      sent_pkts = s.sent_pkts;
      sent_bytes = s.sent_bytes;
      dropped_random = s.dropped_random + c.random;
      dropped_ge = s.dropped_ge + c.ge;
      dropped_mtu = s.dropped_mtu + c.mtu;
      dropped_blackout = s.dropped_blackout + c.blackout;
      dropped_overflow = s.dropped_overflow;
      duplicates = s.duplicates + c.duplicates;
      reorder_hits = s.reorder_hits + one_if a.reordered;
      rate_deferred = s.rate_deferred + one_if a.deferred;
      nat_rebinds = s.nat_rebinds;
      tcp_rst_kills = s.tcp_rst_kills;
      latency_count = s.latency_count;
      latency_sum_ms = s.latency_sum_ms;
      latency_min_ms = s.latency_min_ms;
      latency_max_ms = s.latency_max_ms;
      hist = s.hist;
    }
