-- The bits of all counters are those of the list, gathered from its front.
use mathlib.Core.Path.{◌∙◌}
use mathlib.Core.List.{[], ◌∷◌}
use Rattle.accounts.specs.Stats.{latencies_of}
use Rattle.accounts.specs.Counters.{stats_counters}
use Rattle.accounts.specs.Laws.Counters.{gathered}
use Rattle.accounts.proofs.stats.DirectionStats.in_range.Goals as goal

pub returns : goal.returns
unfolding stats_counters latencies_of
returns c =
    let s = c.args.self.now in
    c.is_counter.ensures
    ∙ rw c.counter_bits-bits.ensures
    (gathered
    s.received_pkts
    (s.received_bytes ∷ s.sent_pkts ∷ s.sent_bytes ∷ s.dropped_random ∷ s.dropped_ge ∷ s.dropped_mtu ∷ s.dropped_blackout ∷ s.dropped_overflow ∷ s.duplicates ∷ s.reorder_hits ∷ s.rate_deferred ∷ s.nat_rebinds ∷ s.tcp_rst_kills ∷ s.latency_count ∷ [])
    s.hist)
