-- How decisions are counted: a drop in one of the four counters, all else in none of them, and a duplicated packet as a duplicate.
use Rattle.std.specs.Prelude.{◌≡◌, refl, Bool, true, false, ℕ, ◌+◌, ◌≤◌, Float, Result, Ok, Err}
use Rattle.std.proofs.Common.{lit≤}
use Rattle.numbers.specs.declared.refusal.Refusal.{Refusal}
use Rattle.steps.specs.Decision.{is_drop_of}
use Rattle.steps.specs.declared.decision.Decision.{Decision}
use Rattle.steps.specs.declared.decision.Decision.TheVariants.{DropRandom, DropGe, DropMtu, DropBlackout, DropKillHold, Enqueue, KillRst}
use Rattle.judgement.specs.Settings.{is_settings_of}
use Rattle.engine.specs.Calls.{decide_given_of, decide_of}
use Rattle.engine.specs.Counts.{one_if, counts_of, counted_of}
use Rattle.engine.specs.Decide.{after_of, decide_passed_of}
use Rattle.engine.specs.Laws.Refusals.{called_has}
use Rattle.engine.specs.Refusals.{arrival_refusal}
use Rattle.engine.specs.declared.counts.DecisionCounts.{DecisionCounts}
use Rattle.engine.specs.declared.engine.ArrivalEngine.{ArrivalEngine}

pub one_small : (b : Bool) → one_if b ≤ 1
unfolding one_if
one_small true = lit≤ tt
one_small false = lit≤ tt

-- no counter grows by more than one
pub record Single (c : DecisionCounts) : Type 0 where
  pub random : c.random ≤ 1
  pub ge : c.ge ≤ 1
  pub mtu : c.mtu ≤ 1
  pub blackout : c.blackout ≤ 1
  pub duplicates : c.duplicates ≤ 1

pub counts_single : (d : Decision) → Single (counts_of d)
unfolding counts_of
counts_single DropRandom = record { random = lit≤ tt; ge = lit≤ tt; mtu = lit≤ tt; blackout = lit≤ tt; duplicates = lit≤ tt }
counts_single DropGe = record { random = lit≤ tt; ge = lit≤ tt; mtu = lit≤ tt; blackout = lit≤ tt; duplicates = lit≤ tt }
counts_single DropMtu = record { random = lit≤ tt; ge = lit≤ tt; mtu = lit≤ tt; blackout = lit≤ tt; duplicates = lit≤ tt }
counts_single DropBlackout = record { random = lit≤ tt; ge = lit≤ tt; mtu = lit≤ tt; blackout = lit≤ tt; duplicates = lit≤ tt }
counts_single DropKillHold = record { random = lit≤ tt; ge = lit≤ tt; mtu = lit≤ tt; blackout = lit≤ tt; duplicates = lit≤ tt }
counts_single (Enqueue due duplicate) = record { random = lit≤ tt; ge = lit≤ tt; mtu = lit≤ tt; blackout = lit≤ tt; duplicates = one_small duplicate }
counts_single KillRst = record { random = lit≤ tt; ge = lit≤ tt; mtu = lit≤ tt; blackout = lit≤ tt; duplicates = lit≤ tt }

-- whether a decision enqueues a packet twice
abbrev pub is_duplicated : Decision → Bool
is_duplicated DropRandom = false
is_duplicated DropGe = false
is_duplicated DropMtu = false
is_duplicated DropBlackout = false
is_duplicated DropKillHold = false
is_duplicated (Enqueue due duplicate) = duplicate
is_duplicated KillRst = false

-- exactly one of the four grows by one where the decision is a drop, else none
pub drops_counted : (d : Decision) → (counts_of d).random + (counts_of d).ge + (counts_of d).mtu + (counts_of d).blackout ≡ one_if (is_drop_of d)
unfolding counts_of is_drop_of one_if
drops_counted DropRandom = refl
drops_counted DropGe = refl
drops_counted DropMtu = refl
drops_counted DropBlackout = refl
drops_counted DropKillHold = refl
drops_counted (Enqueue due duplicate) = refl
drops_counted KillRst = refl

pub duplicates_counted : (d : Decision) → (counts_of d).duplicates ≡ one_if (is_duplicated d)
unfolding counts_of one_if
duplicates_counted DropRandom = refl
duplicates_counted DropGe = refl
duplicates_counted DropMtu = refl
duplicates_counted DropBlackout = refl
duplicates_counted DropKillHold = refl
duplicates_counted (Enqueue due duplicate) = refl
duplicates_counted KillRst = refl

-- what an arrival of len bytes that is decided so adds to the counters; all others of document 01's count stay
pub record CountedAs (before after : ArrivalEngine) (len : ℕ) (d : Decision) : Type 0 where
  pub received : after.stats.received_pkts ≡ before.stats.received_pkts + 1
  pub bytes : after.stats.received_bytes ≡ before.stats.received_bytes + len
  pub random : after.stats.dropped_random ≡ before.stats.dropped_random + (counts_of d).random
  pub ge : after.stats.dropped_ge ≡ before.stats.dropped_ge + (counts_of d).ge
  pub mtu : after.stats.dropped_mtu ≡ before.stats.dropped_mtu + (counts_of d).mtu
  pub blackout : after.stats.dropped_blackout ≡ before.stats.dropped_blackout + (counts_of d).blackout
  pub duplicates : after.stats.duplicates ≡ before.stats.duplicates + (counts_of d).duplicates
  pub overflow : after.stats.dropped_overflow ≡ before.stats.dropped_overflow
  pub resets : after.stats.tcp_rst_kills ≡ before.stats.tcp_rst_kills
  pub sent : after.stats.sent_pkts ≡ before.stats.sent_pkts
  pub rebinds : after.stats.nat_rebinds ≡ before.stats.nat_rebinds

pub decide_counts : (e : ArrivalEngine) (now : Float) (len : ℕ) → CountedAs e (decide_passed_of e now len).0 len (decide_passed_of e now len).1
unfolding decide_passed_of after_of counted_of
decide_counts e now len = record { received = refl; bytes = refl; random = refl; ge = refl; mtu = refl; blackout = refl; duplicates = refl; overflow = refl; resets = refl; sent = refl; rebinds = refl }

-- what a call of `decide` does to the counters: as its decision says, or nothing where it is refused
abbrev pub Accounted : ArrivalEngine → ArrivalEngine → ℕ → Result Decision Refusal → Type 0
Accounted before after len (Ok d) = CountedAs before after len d
Accounted before after len (Err k) = after ≡ before

pub decide_accounts : (e : ArrivalEngine) (now : Float) (len : ℕ) → Accounted e (decide_of e now len).0 len (decide_of e now len).1
unfolding decide_given_of
decide_accounts e now len = called_has (λ (r : ArrivalEngine × Result Decision Refusal). Accounted e r.0 len r.1) (arrival_refusal (is_settings_of e.cfg) e now len) e (decide_passed_of e now len) (λ p. decide_counts e now len) (λ k. refl)
