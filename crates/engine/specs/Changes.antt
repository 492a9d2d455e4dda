-- What changes an engine beside arrivals: a rebind, and copies that a full queue turned away.
use Rattle.std.specs.Prelude.{ℕ, ◌+◌}
use Rattle.std.specs.Float.{binary64}
use Rattle.std.specs.Float.Ieee.{add}
use Rattle.numbers.specs.Whole.{whole}
use Rattle.accounts.specs.declared.stats.DirectionStats.{DirectionStats}
use Rattle.engine.specs.declared.engine.ArrivalEngine.{ArrivalEngine}

-- the statistics with these numbers of copies that a full queue turned away and of rebinds
unfoldable pub with_others : DirectionStats → ℕ → ℕ → DirectionStats
with_others s overflow rebinds =
    record {
      received_pkts = s.received_pkts;
      received_bytes = s.received_bytes;
      sent_pkts = s.sent_pkts;
      sent_bytes = s.sent_bytes;
      dropped_random = s.dropped_random;
      dropped_ge = s.dropped_ge;
      dropped_mtu = s.dropped_mtu;
      dropped_blackout = s.dropped_blackout;
      dropped_overflow = overflow;
      duplicates = s.duplicates;
      reorder_hits = s.reorder_hits;
      rate_deferred = s.rate_deferred;
      nat_rebinds = rebinds;
      tcp_rst_kills = s.tcp_rst_kills;
      latency_count = s.latency_count;
      latency_sum_ms = s.latency_sum_ms;
      latency_min_ms = s.latency_min_ms;
      latency_max_ms = s.latency_max_ms;
      hist = s.hist;
    }

-- one rebind more, and the next one a period later
unfoldable pub rebound_of : ArrivalEngine → ArrivalEngine
rebound_of e =
    record {
      cfg = e.cfg;
      rng = e.rng;
      ge_bad = e.ge_bad;
      tokens = e.tokens;
      last_refill_ms = e.last_refill_ms;
      next_rebind_ms = add binary64 e.next_rebind_ms (whole e.cfg.nat_change_every_ms);
      rebinds_done = e.rebinds_done + 1;
      stats = with_others e.stats e.stats.dropped_overflow (e.rebinds_done + 1);
    }

-- the engine with this number of copies that a full queue turned away
unfoldable pub with_overflow : ArrivalEngine → ℕ → ArrivalEngine
with_overflow e n =
    record {
      cfg = e.cfg;
      rng = e.rng;
      ge_bad = e.ge_bad;
      tokens = e.tokens;
      last_refill_ms = e.last_refill_ms;
      next_rebind_ms = e.next_rebind_ms;
      rebinds_done = e.rebinds_done;
      stats = with_others e.stats n e.stats.nat_rebinds;
    }

-- n copies more
abbrev pub overflowed_of : ArrivalEngine → ℕ → ArrivalEngine
overflowed_of e n = with_overflow e (e.stats.dropped_overflow + n)
