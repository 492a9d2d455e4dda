-- What demand 3 counts from the answers (document 01, "The plain machine"): the arrivals that were not refused, how many were decided in each way (a packet that a
-- kill holds is a blackout), and how many copies overflowed, were torn or were handed out.
use Rattle.std.specs.Prelude.{◌≡◌, List, [], ◌∷◌, ℕ, ◌+◌}
use Rattle.accounts.specs.declared.stats.DirectionStats.{DirectionStats}
use Rattle.steps.specs.declared.decision.Decision.{Decision}
use Rattle.steps.specs.declared.decision.Decision.TheVariants.{DropRandom, DropGe, DropMtu, DropBlackout, DropKillHold, Enqueue, KillRst}
use Rattle.engine.specs.Counts.{one_if}
use Rattle.machine.specs.Calls.{Answer, decided, released, none_due, rebound, tore_down, reported, refused}

pub record Tally : Type 0 where
  pub received : ℕ
  pub random : ℕ
  pub ge : ℕ
  pub mtu : ℕ
  pub blackout : ℕ
  pub reset : ℕ
  pub duplicates : ℕ
  pub overflow : ℕ
  pub released : ℕ
  pub torn : ℕ

abbrev pub nothing : Tally
nothing = record { received = 0; random = 0; ge = 0; mtu = 0; blackout = 0; reset = 0; duplicates = 0; overflow = 0; released = 0; torn = 0 }

-- an arrival that was decided so, with so many copies overflowed and torn
abbrev pub arrival : Decision → ℕ → ℕ → Tally
arrival DropRandom o t = record { received = 1; random = 1; ge = 0; mtu = 0; blackout = 0; reset = 0; duplicates = 0; overflow = o; released = 0; torn = t }
arrival DropGe o t = record { received = 1; random = 0; ge = 1; mtu = 0; blackout = 0; reset = 0; duplicates = 0; overflow = o; released = 0; torn = t }
arrival DropMtu o t = record { received = 1; random = 0; ge = 0; mtu = 1; blackout = 0; reset = 0; duplicates = 0; overflow = o; released = 0; torn = t }
arrival DropBlackout o t = record { received = 1; random = 0; ge = 0; mtu = 0; blackout = 1; reset = 0; duplicates = 0; overflow = o; released = 0; torn = t }
arrival DropKillHold o t = record { received = 1; random = 0; ge = 0; mtu = 0; blackout = 1; reset = 0; duplicates = 0; overflow = o; released = 0; torn = t }
arrival (Enqueue due duplicated) o t = record { received = 1; random = 0; ge = 0; mtu = 0; blackout = 0; reset = 0; duplicates = one_if duplicated; overflow = o; released = 0; torn = t }
arrival KillRst o t = record { received = 1; random = 0; ge = 0; mtu = 0; blackout = 0; reset = 1; duplicates = 0; overflow = o; released = 0; torn = t }

-- what one answer adds
abbrev pub tally_of : Answer → Tally
tally_of (decided d entered overflowed torn) = arrival d overflowed torn
tally_of (released c) = record { received = 0; random = 0; ge = 0; mtu = 0; blackout = 0; reset = 0; duplicates = 0; overflow = 0; released = 1; torn = 0 }
tally_of none_due = nothing
tally_of (rebound b) = nothing
tally_of (tore_down n) = record { received = 0; random = 0; ge = 0; mtu = 0; blackout = 0; reset = 0; duplicates = 0; overflow = 0; released = 0; torn = n }
tally_of (reported s held torn) = nothing
tally_of (refused k) = nothing

abbrev pub plus : Tally → Tally → Tally
plus x y =
    record {
      received = x.received + y.received;
      random = x.random + y.random;
      ge = x.ge + y.ge;
      mtu = x.mtu + y.mtu;
      blackout = x.blackout + y.blackout;
      reset = x.reset + y.reset;
      duplicates = x.duplicates + y.duplicates;
      overflow = x.overflow + y.overflow;
      released = x.released + y.released;
      torn = x.torn + y.torn;
    }

-- what a list of answers adds up to
unfoldable pub total : List Answer → Tally
total [] = nothing
total (a ∷ l) = plus (tally_of a) (total l)

-- demand 3's two sides
abbrev pub came_in : Tally → ℕ
came_in x = x.received + x.duplicates

abbrev pub accounted_for : Tally → ℕ → ℕ
accounted_for x held = x.random + x.ge + x.mtu + x.blackout + x.reset + x.overflow + x.released + x.torn + held

-- a report's numbers are those counted so far, and come out by themselves
pub record Told (x : Tally) (s : DirectionStats) (held torn : ℕ) : Type 0 where
  pub received : s.received_pkts ≡ x.received
  pub random : s.dropped_random ≡ x.random
  pub ge : s.dropped_ge ≡ x.ge
  pub mtu : s.dropped_mtu ≡ x.mtu
  pub blackout : s.dropped_blackout ≡ x.blackout
  pub reset : s.tcp_rst_kills ≡ x.reset
  pub duplicates : s.duplicates ≡ x.duplicates
  pub overflow : s.dropped_overflow ≡ x.overflow
  pub released : s.sent_pkts ≡ x.released
  pub tears : torn ≡ x.torn
  pub balance : s.received_pkts + s.duplicates
      ≡ s.dropped_random + s.dropped_ge + s.dropped_mtu + s.dropped_blackout + s.tcp_rst_kills + s.dropped_overflow + s.sent_pkts + torn + held

-- an answer that is a report tells what has been counted
abbrev pub Tells : Tally → Answer → Type 0
Tells x (decided d entered overflowed torn) = Unit {0}
Tells x (released c) = Unit {0}
Tells x none_due = Unit {0}
Tells x (rebound b) = Unit {0}
Tells x (tore_down n) = Unit {0}
Tells x (reported s held torn) = Told x s held torn
Tells x (refused k) = Unit {0}

-- the same for each answer of a list, given what was counted before it
abbrev pub EachTells : Tally → List Answer → Type 0
EachTells x [] = Unit {0}
EachTells x (a ∷ l) = Tells x a × EachTells (plus x (tally_of a)) l
