-- The statistics of a direction.
use Rattle.std.specs.Prelude.{ℕ, ◌+◌, replicate}
use Rattle.accounts.specs.declared.latency.LatencyStats.{LatencyStats}
use Rattle.accounts.specs.declared.stats.DirectionStats.{DirectionStats}
use Rattle.numbers.specs.Whole.{whole}

-- nothing has happened: all fields 0
unfoldable pub no_stats : DirectionStats
no_stats =
    record {
      received_pkts = 0;
      received_bytes = 0;
      sent_pkts = 0;
      sent_bytes = 0;
      dropped_random = 0;
      dropped_ge = 0;
      dropped_mtu = 0;
      dropped_blackout = 0;
      dropped_overflow = 0;
      duplicates = 0;
      reorder_hits = 0;
      rate_deferred = 0;
      nat_rebinds = 0;
      tcp_rst_kills = 0;
      latency_count = 0;
      latency_sum_ms = whole 0;
      latency_min_ms = whole 0;
      latency_max_ms = whole 0;
      hist = replicate 12 0;
    }

-- the latencies among the statistics
unfoldable pub latencies_of : DirectionStats → LatencyStats
latencies_of s =
    record {
      count = s.latency_count;
      sum_ms = s.latency_sum_ms;
      min_ms = s.latency_min_ms;
      max_ms = s.latency_max_ms;
      hist = s.hist;
    }

-- the statistics with these latencies in place of their own
unfoldable pub with_latencies_of : DirectionStats → LatencyStats → DirectionStats
with_latencies_of s l =
    record {
      received_pkts = s.received_pkts;
      received_bytes = s.received_bytes;
      sent_pkts = s.sent_pkts;
      sent_bytes = s.sent_bytes;
      dropped_random = s.dropped_random;
      dropped_ge = s.dropped_ge;
      dropped_mtu = s.dropped_mtu;
      dropped_blackout = s.dropped_blackout;
      dropped_overflow = s.dropped_overflow;
      duplicates = s.duplicates;
      reorder_hits = s.reorder_hits;
      rate_deferred = s.rate_deferred;
      nat_rebinds = s.nat_rebinds;
      tcp_rst_kills = s.tcp_rst_kills;
      latency_count = l.count;
      latency_sum_ms = l.sum_ms;
      latency_min_ms = l.min_ms;
      latency_max_ms = l.max_ms;
      hist = l.hist;
    }

-- the packets dropped, whatever the reason; a reset is none of them
unfoldable pub total_of : DirectionStats → ℕ
total_of s = s.dropped_random + s.dropped_ge + s.dropped_mtu + s.dropped_blackout + s.dropped_overflow
