-- The chain of an arrival's steps (document 01, "Arrival engine"), once the windows have been asked (steps 2 and 3).
use Rattle.std.specs.Prelude.{Bool, false, cond, ℕ, Float}
use Rattle.std.specs.Float.{binary64}
use Rattle.std.specs.Float.Ieee.{add}
use Rattle.draws.specs.declared.rng.Rng.{Rng}
use Rattle.steps.specs.declared.arrival.Arrival.{Arrival}
use Rattle.steps.specs.declared.arrival.ArrivalState.{ArrivalState}
use Rattle.options.specs.declared.config.DirectionConfig.{DirectionConfig}
use Rattle.steps.specs.declared.decision.Decision.{Decision}
use Rattle.steps.specs.declared.decision.Decision.TheVariants.{DropRandom, DropGe, DropMtu, DropBlackout, DropKillHold, Enqueue, KillRst}
use Rattle.steps.specs.declared.gate.Gate.{Gate}
use Rattle.steps.specs.declared.gate.Gate.TheVariants.{Open, Reset, Held, Blackout}
use Rattle.steps.specs.Chance.{chance_of}
use Rattle.steps.specs.Burst.{burst_loss_of}
use Rattle.steps.specs.Mtu.{exceeds_of}
use Rattle.steps.specs.Bucket.{charged_of, last_refill_of, is_deferred_of}
use Rattle.steps.specs.Due.{jittered_of, reordered_of, owed_of}

-- the packet goes no further
unfoldable pub stopped_of : ArrivalState → Decision → Arrival
stopped_of s d = record { state = s; decision = d; deferred = false; reordered = false }

-- the state with another generator and burst state
abbrev pub drawn_of : ArrivalState → Rng → Bool → ArrivalState
drawn_of s g bad = record { rng = g; ge_bad = bad; tokens = s.tokens; last_refill_ms = s.last_refill_ms }

-- 7. bucket, 8. duplicate draw, 9. delay and jitter draw, 10. reorder draw, 11. debt
unfoldable pub scheduled_of : DirectionConfig → ArrivalState → Float → ℕ → Arrival
scheduled_of c s now len =
    let rate = c.rate_bps in
    let tokens = charged_of s.tokens s.last_refill_ms rate c.rate_burst_bytes now len in
    let duplicate = chance_of s.rng c.duplicate_p in
    let jitter = jittered_of duplicate.0 (add binary64 now c.delay_ms) c.jitter_ms in
    let reorder = chance_of jitter.0 c.reorder_p in
    let due = owed_of tokens rate now (reordered_of reorder.1 jitter.1 c.reorder_delay_ms) in
    record {
      state = record { rng = reorder.0; ge_bad = s.ge_bad; tokens = tokens; last_refill_ms = last_refill_of s.last_refill_ms rate now };
      decision = Enqueue due duplicate.1;
      deferred = is_deferred_of rate tokens;
      reordered = reorder.1;
    }

-- 6. MTU, and the steps behind it
unfoldable pub from_mtu : DirectionConfig → ArrivalState → Float → ℕ → Arrival
from_mtu c s now len = cond (exceeds_of c.mtu len) (stopped_of s DropMtu) (scheduled_of c s now len)

-- 5. GE, and the steps behind it
unfoldable pub from_ge : DirectionConfig → ArrivalState → Float → ℕ → Arrival
from_ge c s now len =
    let burst = burst_loss_of s.rng s.ge_bad c.ge in
    let after = drawn_of s burst.0 burst.1 in
    cond burst.2 (stopped_of after DropGe) (from_mtu c after now len)

-- 4. loss, and the steps behind it
unfoldable pub passed_of : DirectionConfig → ArrivalState → Float → ℕ → Arrival
passed_of c s now len =
    let loss = chance_of s.rng c.loss in
    let after = drawn_of s loss.0 s.ge_bad in
    cond loss.1 (stopped_of after DropRandom) (from_ge c after now len)

-- 2. and 3. what the windows say, and the steps behind it where they let the packet through
unfoldable pub arrived_of : Gate → DirectionConfig → ArrivalState → Float → ℕ → Arrival
arrived_of Open c s now len = passed_of c s now len
arrived_of Reset c s now len = stopped_of s KillRst
arrived_of Held c s now len = stopped_of s DropKillHold
arrived_of Blackout c s now len = stopped_of s DropBlackout
