-- The bits of all counters are those of the list, gathered from its front.
use mathlib.Core.Path.{◌∙◌}
use mathlib.Core.List.{[], ◌∷◌}
use Rattle.accounts.specs.Laws.Counters.{gathered}
use Rattle.accounts.specs.Counters.{accountant_counters}
use Rattle.accounts.proofs.accountant.SendAccountant.in_range.Goals as goal

pub returns : goal.returns
unfolding accountant_counters
returns c =
    let a = c.args.self.now in
    let l = a.latency in
    c.is_counter.ensures ∙ rw c.counter_bits-bits.ensures (gathered a.sent_pkts (a.sent_bytes ∷ a.dropped_overflow ∷ a.tcp_rst_kills ∷ a.nat_rebinds ∷ l.count ∷ []) l.hist)
