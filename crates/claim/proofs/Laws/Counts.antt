-- What a device counts at once after an arrival, the machine counts one by one.
use Rattle.std.specs.Prelude.{◌≡◌, ℕ, ◌+◌}
use Rattle.std.proofs.Common.{add-zero, arith}
use Rattle.accounts.specs.Accountant.{resets_of}
use Rattle.accounts.specs.declared.accountant.SendAccountant.{SendAccountant}
use Rattle.engine.specs.Changes.{with_others, with_overflow, overflowed_of}
use Rattle.engine.specs.declared.engine.ArrivalEngine.{ArrivalEngine}

pub overflows_none : (e : ArrivalEngine) → overflowed_of e 0 ≡ e
unfolding with_overflow with_others
overflows_none e i = with_overflow e (add-zero e.stats.dropped_overflow i)

pub overflows_more : (e : ArrivalEngine) (n : ℕ) → overflowed_of e (n + 1) ≡ overflowed_of (overflowed_of e n) 1
unfolding with_overflow with_others
overflows_more e n i =
    let regroup : e.stats.dropped_overflow + (n + 1) ≡ e.stats.dropped_overflow + n + 1 = omega arith in
    with_overflow e (regroup i)

pub resets_none : (a : SendAccountant) → resets_of a 0 ≡ a
unfolding resets_of
resets_none a i =
    record {
      sent_pkts = a.sent_pkts;
      sent_bytes = a.sent_bytes;
      dropped_overflow = a.dropped_overflow;
      tcp_rst_kills = add-zero a.tcp_rst_kills i;
      nat_rebinds = a.nat_rebinds;
      latency = a.latency;
    }
