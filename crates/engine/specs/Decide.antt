-- The eleven steps of an arrival: the windows (2, 3), the chain (4 to 11), and the counts (1).
use Rattle.std.specs.Prelude.{ℕ, Float}
use Rattle.steps.specs.Arrival.{arrived_of}
use Rattle.steps.specs.declared.arrival.Arrival.{Arrival}
use Rattle.steps.specs.declared.decision.Decision.{Decision}
use Rattle.engine.specs.Counts.{counted_of}
use Rattle.engine.specs.Engine.{state_of, gate_at_of}
use Rattle.engine.specs.declared.engine.ArrivalEngine.{ArrivalEngine}

-- the engine after an arrival of len bytes
unfoldable pub after_of : ArrivalEngine → ℕ → Arrival → ArrivalEngine
after_of e len a =
    record {
      cfg = e.cfg;
      rng = a.state.rng;
      ge_bad = a.state.ge_bad;
      tokens = a.state.tokens;
      last_refill_ms = a.state.last_refill_ms;
      next_rebind_ms = e.next_rebind_ms;
      rebinds_done = e.rebinds_done;
      stats = counted_of e.stats len a;
    }

unfoldable pub decide_passed_of : ArrivalEngine → Float → ℕ → ArrivalEngine × Decision
decide_passed_of e now len =
    let a = arrived_of (gate_at_of e.cfg now) e.cfg (state_of e) now len in
    (after_of e len a, a.decision)
