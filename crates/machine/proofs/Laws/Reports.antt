-- A report says what demand 3 counts from the answers before it.
use Rattle.std.specs.Prelude.{◌≡◌, List, [], ◌∷◌, ℕ, ltb, Float, length}
use Rattle.std.proofs.Common.{arith}
use Rattle.numbers.specs.Laws.NotNan.{cond_has}
use Rattle.accounts.specs.Accountant.{no_sends, sent_of, with_sends, merged_of, resets_of}
use Rattle.accounts.specs.Stats.{no_stats, with_latencies_of}
use Rattle.steps.specs.declared.decision.Decision.{Decision}
use Rattle.steps.specs.declared.decision.Decision.TheVariants.{DropRandom, DropGe, DropMtu, DropBlackout, DropKillHold, Enqueue, KillRst}
use Rattle.engine.specs.Changes.{with_others, with_overflow, rebound_of}
use Rattle.engine.specs.Counts.{counts_of}
use Rattle.engine.specs.Engine.{fresh_of}
use Rattle.engine.specs.Laws.Counts.{CountedAs, decide_counts}
use Rattle.engine.specs.declared.engine.ArrivalEngine.{ArrivalEngine}
use Rattle.machine.specs.Machine.{Machine, Creation, fresh_machine}
use Rattle.machine.specs.Calls.{Call}
use Rattle.machine.specs.Steps.{Step, Entry, entry, with_engine, enter_copy, follow, step, answers}
use Rattle.machine.specs.Tally.{Tally, nothing, arrival, tally_of, plus, came_in, accounted_for, Told, Tells, EachTells}
use Rattle.machine.proofs.Laws.Cases.{Does, refuses, decides, releases, finds_none, rebinds, address_stays, tears, reports, step_does, enters_have}
use Rattle.machine.proofs.Laws.Held.{InOrder, step_order}
use Rattle.machine.proofs.Laws.Count.{step_balances}

-- the engine has counted what came and overflowed, the accounts what was sent and reset
pub record Counted (x : Tally) (m : Machine) : Type 0 where
  pub received : m.engine.stats.received_pkts ≡ x.received
  pub random : m.engine.stats.dropped_random ≡ x.random
  pub ge : m.engine.stats.dropped_ge ≡ x.ge
  pub mtu : m.engine.stats.dropped_mtu ≡ x.mtu
  pub blackout : m.engine.stats.dropped_blackout ≡ x.blackout
  pub duplicates : m.engine.stats.duplicates ≡ x.duplicates
  pub overflow : m.engine.stats.dropped_overflow ≡ x.overflow
  pub no_overflow : m.accounts.dropped_overflow ≡ 0
  pub resets : m.accounts.tcp_rst_kills ≡ x.reset
  pub no_resets : m.engine.stats.tcp_rst_kills ≡ 0
  pub sends : m.accounts.sent_pkts ≡ x.released
  pub nothing_sent : m.engine.stats.sent_pkts ≡ 0
  pub torn : m.torn ≡ x.torn

-- a step counts what its answer adds
abbrev pub Counts : Tally → Step → Type 0
Counts x s = Counted (plus x (tally_of s.answer)) s.then

-- what came in so far is accounted for
abbrev pub Balanced : Tally → Machine → Type 0
Balanced x m = came_in x ≡ accounted_for x (length m.held)

-- ---- steps

abbrev overflows : ℕ → Tally
overflows n = record { received = 0; random = 0; ge = 0; mtu = 0; blackout = 0; reset = 0; duplicates = 0; overflow = n; released = 0; torn = 0 }

-- copies that enter change no count but the overflow
module _ (x : Tally) (due now : Float) (bytes : List ℕ) (route : ℕ) where
  abbrev CountedOn : Entry → Type 0
  CountedOn e = Counted (plus x (overflows e.overflowed)) e.then

  enter_counts : (id : ℕ) (e : Entry) → CountedOn e → CountedOn (enter_copy due now route bytes id e)
  unfolding enter_copy with_overflow with_others
  enter_counts id e h = cond_has CountedOn (ltb (length e.then.held) e.then.cap) (omega arith) (omega arith)

-- what follows on the decision, with the engine e that has counted it
follow_counts : (x : Tally) (m : Machine) (e : ArrivalEngine) (d : Decision) (now : Float) (bytes : List ℕ) (route : ℕ)
    → Counted x m → CountedAs m.engine e (length bytes) d → Counts x (follow (with_engine m e) d now bytes route)
unfolding follow counts_of resets_of
follow_counts x m e DropRandom now bytes route h k = omega arith
follow_counts x m e DropGe now bytes route h k = omega arith
follow_counts x m e DropMtu now bytes route h k = omega arith
follow_counts x m e DropBlackout now bytes route h k = omega arith
follow_counts x m e DropKillHold now bytes route h k = omega arith
follow_counts x m e (Enqueue due duplicated) now bytes route h k =
    let y : Tally = plus x (arrival (Enqueue due duplicated) 0 0) in
    let before : CountedOn y due now bytes route (entry (with_engine m e) 0 0) = omega arith in
    omega (arith, enters_have (CountedOn y due now bytes route) (with_engine m e) due duplicated now bytes route (enter_counts y due now bytes route) before)
follow_counts x m e KillRst now bytes route h k = omega arith

does_counts : (x : Tally) {m : Machine} {c : Call} {s : Step} → Does m c s → Counted x m → Counts x s
unfolding rebound_of with_others sent_of
does_counts x (refuses c k r) h = omega arith
does_counts x {m} (decides now bytes route i l) h = follow_counts x m _ _ now bytes route h (decide_counts m.engine now (length bytes))
does_counts x (releases now c k) h = omega arith
does_counts x (finds_none now) h = omega arith
does_counts x (rebinds now) h = omega arith
does_counts x (address_stays now) h = omega arith
does_counts x tears h = omega arith
does_counts x reports h = omega arith

-- ---- reports

merged_tells : (x : Tally) (m : Machine) → Counted x m → Balanced x m → Told x (merged_of m.accounts m.engine.stats) (length m.held) m.torn
unfolding merged_of with_sends with_latencies_of
merged_tells x m h b = omega arith

follow_tells : (x : Tally) (m : Machine) (d : Decision) (now : Float) (bytes : List ℕ) (route : ℕ) → Tells x (follow m d now bytes route).answer
unfolding follow
follow_tells x m DropRandom now bytes route = tt
follow_tells x m DropGe now bytes route = tt
follow_tells x m DropMtu now bytes route = tt
follow_tells x m DropBlackout now bytes route = tt
follow_tells x m DropKillHold now bytes route = tt
follow_tells x m (Enqueue due duplicated) now bytes route = tt
follow_tells x m KillRst now bytes route = tt

does_tells : (x : Tally) {m : Machine} {c : Call} {s : Step} → Does m c s → Counted x m → Balanced x m → Tells x s.answer
does_tells x (refuses c k r) h b = tt
does_tells x (decides now bytes route i l) h b = follow_tells x _ _ now bytes route
does_tells x (releases now c k) h b = tt
does_tells x (finds_none now) h b = tt
does_tells x (rebinds now) h b = tt
does_tells x (address_stays now) h b = tt
does_tells x tears h b = tt
does_tells x {m} reports h b = merged_tells x m h b

-- ---- lists of calls

pub all_tell : (x : Tally) (m : Machine) → InOrder m → Counted x m → Balanced x m → (cs : List Call) → EachTells x (answers m cs)
unfolding answers
all_tell x m o h b [] = tt
all_tell x m o h b (c ∷ cs) = (
  does_tells x (step_does m c) h b,
  all_tell (plus x (tally_of (step m c).answer)) (step m c).then (step_order m c o) (does_counts x (step_does m c) h) (omega (arith, b, step_balances m c o)) cs,
)

pub fresh_counted : (made : Creation) → Counted nothing (fresh_machine made)
unfolding fresh_machine fresh_of no_stats no_sends
fresh_counted made = omega arith
