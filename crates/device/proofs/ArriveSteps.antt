-- An arrival that meets no refusal is decided, and what it counts does not overflow.
use Rattle.std.proofs.Common.{◌≡◌, sym, ap, ◌∙◌, Bool, true, ◌&&◌, List, ℕ, ◌+◌, ◌<◌, ◌^◌, length, arith, Result, Ok, Err}
use Rattle.std.specs.Prelude.{leb, Float}
use Rattle.numbers.specs.Checks.{first_refusal}
use Rattle.numbers.specs.Instant.{is_instant_of}
use Rattle.numbers.specs.Laws.Both.{both_true}
use Rattle.numbers.specs.Laws.Limits.{counter_below}
use Rattle.numbers.specs.Limits.{is_length_of}
use Rattle.numbers.specs.declared.refusal.Refusal.{Refusal}
use Rattle.accounts.specs.Laws.Small.{small_sends, small_stats}
use Rattle.steps.specs.declared.decision.Decision.{Decision}
use Rattle.engine.specs.Calls.{decide_given_of, decide_unchecked_of}
use Rattle.engine.specs.Decide.{decide_passed_of}
use Rattle.engine.specs.Laws.Counts.{decide_counts}
use Rattle.engine.specs.Refusals.{judged_given_of, counters_pass}
use Rattle.engine.specs.declared.engine.ArrivalEngine.{ArrivalEngine}
use Rattle.queue.specs.Tables.{Tables, after}
use Rattle.queue.specs.declared.queue.ImpairQueue.{ImpairQueue}
use Rattle.admission.specs.Follow.{follow_of}
use Rattle.admission.specs.Laws.Bounds.{follow_bounds}
use Rattle.admission.specs.declared.admitted.Admitted.{Admitted}
use Rattle.device.specs.Arrive.{decided_with, settled_by, arrive_refusal, arrive_of}
use Rattle.device.specs.declared.device.Device.{Device}
use Rattle.device.proofs.RefusalSteps.{Passed, no_refusal}

-- what `count` asks
pub record Room (v : Device) (e : ArrivalEngine) (a : Admitted) : Type 0 where
  pub overflows : e.stats.dropped_overflow + a.overflowed < 2 ^ 64
  pub resets : v.accounts.tcp_rst_kills + a.resets < 2 ^ 64
  pub torn : v.torn + a.torn < 2 ^ 64

abbrev Answered : Type 0
Answered = ArrivalEngine × Result Decision Refusal

abbrev Decided : Type 0
Decided = ArrivalEngine × Decision

abbrev answered_by : Decided → Answered
answered_by d = (d.0, Ok d.1)

-- an arrival that passes 21, 22 and 25 is decided
unchecked_passes : (e : ArrivalEngine) (now : Float) (len : ℕ) → is_instant_of now ≡ true → is_length_of len ≡ true → counters_pass e ≡ true
    → decide_unchecked_of e now len ≡ answered_by (decide_passed_of e now len)
unfolding decide_given_of judged_given_of first_refusal
unchecked_passes e now len hi hl hc = rw (hi, hl, hc)

module _ (v : Device) (t : Tables) (now : Float) (bytes : List ℕ) (route : ℕ) (h : arrive_refusal v t now (length bytes) ≡ Ok tt)
    (e : ArrivalEngine) (r : Result Decision Refusal) (er : ◌≡◌ {A = Answered} (e, r) (decide_unchecked_of v.engine now (length bytes))) where
  abbrev short : Bool
  short = leb (length bytes) v.queue.width && is_length_of (length bytes)

  passed : Passed v (is_instant_of now) short
  passed = no_refusal v _ (is_instant_of now) short h

  decided : ◌≡◌ {A = Answered} (e, r) (answered_by (decide_passed_of v.engine now (length bytes)))
  decided = er ∙ unchecked_passes v.engine now (length bytes) passed.instant_passes (both_true (leb (length bytes) v.queue.width) (is_length_of (length bytes)) passed.length_passes).1 passed.engine

  -- the engine refuses nothing that was not refused before
  pub not_refused : {A : Type 0} (k : Refusal) → r ≡ Err k → A
  not_refused k hk = let z = sym hk ∙ ap (λ (x : Answered). x.1) decided in cc

  module _ (d : Decision) (ed : r ≡ Ok d) (q : ImpairQueue) (s : Result Admitted Refusal) (t' : Tables) (ef : after (q, s) t' ≡ follow_of v.queue t d now route bytes) where
    is : ◌≡◌ {A = Decided} (e, d) (decide_passed_of v.engine now (length bytes))
    unfolding decide_passed_of
    is =
        let engine = ap (λ (x : Answered). x.0) decided in
        let decision = sym ed ∙ ap (λ (x : Answered). x.1) decided in
        cc

    pub settled : after (settled_by s (decided_with v e q) d) t' ≡ arrive_of v t now bytes route
    unfolding arrive_of
    settled = rw (h, ← is, ← ef)

    pub room : (a : Admitted) → s ≡ Ok a → Room v e a
    room a ea =
        let bounds = rw (← ef, ea) at (follow_bounds v.queue t d now route bytes) in
        record {
          overflows = omega (arith, (small_stats v.engine.stats passed.stats).dropped_overflow, (decide_counts v.engine now (length bytes)).overflow, ap (λ (x : Decided). x.0.stats.dropped_overflow) is, bounds.overflowed_within);
          resets = omega (arith, (small_sends v.accounts passed.accounts).tcp_rst_kills, bounds.resets_within);
          torn = omega (arith, counter_below v.torn passed.torn, bounds.torn_within);
        }
