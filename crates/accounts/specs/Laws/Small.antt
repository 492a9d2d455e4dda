-- What refusal 25 lets through, record by record: every counter is below 2 ^ 60.
use Rattle.std.specs.Prelude.{◌≡◌, true, ◌<◌}
use Rattle.numbers.specs.Limits.{counter_limit}
use Rattle.accounts.specs.declared.accountant.SendAccountant.{SendAccountant}
use Rattle.accounts.specs.declared.stats.DirectionStats.{DirectionStats}
use Rattle.accounts.specs.Stats.{latencies_of}
use Rattle.accounts.specs.Counters.{latency_counters, accountant_counters, stats_counters, are_counters}
use Rattle.accounts.specs.Laws.Counters.{counter_at, later_counters}

pub record SmallSends (a : SendAccountant) : Type 0 where
  pub sent_pkts : a.sent_pkts < counter_limit
  pub sent_bytes : a.sent_bytes < counter_limit
  pub dropped_overflow : a.dropped_overflow < counter_limit
  pub tcp_rst_kills : a.tcp_rst_kills < counter_limit
  pub nat_rebinds : a.nat_rebinds < counter_limit
  pub latencies : are_counters (latency_counters a.latency) ≡ true

pub small_sends : (a : SendAccountant) → are_counters (accountant_counters a) ≡ true → SmallSends a
unfolding accountant_counters
small_sends a h =
    record {
      sent_pkts = counter_at (accountant_counters a) 0 h;
      sent_bytes = counter_at (accountant_counters a) 1 h;
      dropped_overflow = counter_at (accountant_counters a) 2 h;
      tcp_rst_kills = counter_at (accountant_counters a) 3 h;
      nat_rebinds = counter_at (accountant_counters a) 4 h;
      latencies = later_counters (accountant_counters a) 5 h;
    }

pub record SmallStats (s : DirectionStats) : Type 0 where
  pub received_pkts : s.received_pkts < counter_limit
  pub received_bytes : s.received_bytes < counter_limit
  pub sent_pkts : s.sent_pkts < counter_limit
  pub sent_bytes : s.sent_bytes < counter_limit
  pub dropped_random : s.dropped_random < counter_limit
  pub dropped_ge : s.dropped_ge < counter_limit
  pub dropped_mtu : s.dropped_mtu < counter_limit
  pub dropped_blackout : s.dropped_blackout < counter_limit
  pub dropped_overflow : s.dropped_overflow < counter_limit
  pub duplicates : s.duplicates < counter_limit
  pub reorder_hits : s.reorder_hits < counter_limit
  pub rate_deferred : s.rate_deferred < counter_limit
  pub nat_rebinds : s.nat_rebinds < counter_limit
  pub tcp_rst_kills : s.tcp_rst_kills < counter_limit
  pub latencies : are_counters (latency_counters (latencies_of s)) ≡ true

pub small_stats : (s : DirectionStats) → are_counters (stats_counters s) ≡ true → SmallStats s
unfolding stats_counters
small_stats s h =
    record {
      received_pkts = counter_at (stats_counters s) 0 h;
      received_bytes = counter_at (stats_counters s) 1 h;
      sent_pkts = counter_at (stats_counters s) 2 h;
      sent_bytes = counter_at (stats_counters s) 3 h;
      dropped_random = counter_at (stats_counters s) 4 h;
      dropped_ge = counter_at (stats_counters s) 5 h;
      dropped_mtu = counter_at (stats_counters s) 6 h;
      dropped_blackout = counter_at (stats_counters s) 7 h;
      dropped_overflow = counter_at (stats_counters s) 8 h;
      duplicates = counter_at (stats_counters s) 9 h;
      reorder_hits = counter_at (stats_counters s) 10 h;
      rate_deferred = counter_at (stats_counters s) 11 h;
      nat_rebinds = counter_at (stats_counters s) 12 h;
      tcp_rst_kills = counter_at (stats_counters s) 13 h;
      latencies = later_counters (stats_counters s) 14 h;
    }
