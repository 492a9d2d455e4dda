-- The send accountant: one packet sent, resets, and its counts joined to the statistics of a direction.
use Rattle.std.specs.Prelude.{ℕ, ◌+◌, Float}
use Rattle.accounts.specs.declared.accountant.SendAccountant.{SendAccountant}
use Rattle.accounts.specs.declared.stats.DirectionStats.{DirectionStats}
use Rattle.accounts.specs.Latency.{no_latencies, recorded_of, joined_of}
use Rattle.accounts.specs.Stats.{latencies_of, with_latencies_of}

-- nothing was sent: all fields 0
unfoldable pub no_sends : SendAccountant
no_sends = record { sent_pkts = 0; sent_bytes = 0; dropped_overflow = 0; tcp_rst_kills = 0; nat_rebinds = 0; latency = no_latencies }

-- one packet more of n bytes, sent with the latency x
unfoldable pub sent_of : SendAccountant → ℕ → Float → SendAccountant
sent_of a n x =
    record {
      sent_pkts = a.sent_pkts + 1;
      sent_bytes = a.sent_bytes + n;
      dropped_overflow = a.dropped_overflow;
      tcp_rst_kills = a.tcp_rst_kills;
      nat_rebinds = a.nat_rebinds;
      latency = recorded_of a.latency x;
    }

-- n resets of connections more
unfoldable pub resets_of : SendAccountant → ℕ → SendAccountant
resets_of a n =
    record {
      sent_pkts = a.sent_pkts;
      sent_bytes = a.sent_bytes;
      dropped_overflow = a.dropped_overflow;
      tcp_rst_kills = a.tcp_rst_kills + n;
      nat_rebinds = a.nat_rebinds;
      latency = a.latency;
    }

-- the statistics with the accountant's counters added
unfoldable pub with_sends : DirectionStats → SendAccountant → DirectionStats
with_sends s a =
    record {
      received_pkts = s.received_pkts;
      received_bytes = s.received_bytes;
      sent_pkts = s.sent_pkts + a.sent_pkts;
      sent_bytes = s.sent_bytes + a.sent_bytes;
      dropped_random = s.dropped_random;
      dropped_ge = s.dropped_ge;
      dropped_mtu = s.dropped_mtu;
      dropped_blackout = s.dropped_blackout;
      dropped_overflow = s.dropped_overflow + a.dropped_overflow;
      duplicates = s.duplicates;
      reorder_hits = s.reorder_hits;
      rate_deferred = s.rate_deferred;
      nat_rebinds = s.nat_rebinds + a.nat_rebinds;
      tcp_rst_kills = s.tcp_rst_kills + a.tcp_rst_kills;
      latency_count = s.latency_count;
      latency_sum_ms = s.latency_sum_ms;
      latency_min_ms = s.latency_min_ms;
      latency_max_ms = s.latency_max_ms;
      hist = s.hist;
    }

-- the statistics with the accountant's counters added and its latencies joined
unfoldable pub merged_of : SendAccountant → DirectionStats → DirectionStats
merged_of a s = with_latencies_of (with_sends s a) (joined_of (latencies_of s) a.latency)
