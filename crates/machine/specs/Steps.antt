-- What each call does, in the order of document 01 ("The plain machine"). A call is judged by 21, 22 and 25 on its arguments and the state; a refused one changes
-- nothing.
use Rattle.std.specs.Prelude.{Bool, true, false, cond, List, [], ◌∷◌, ◌++◌, ℕ, ◌+◌, leb, ltb, eqb, Float, length}
use Rattle.std.specs.Float.{binary64}
use Rattle.std.specs.Float.Ieee.{sub, le}
use Rattle.numbers.specs.Checks.{Check, check, first_failing}
use Rattle.numbers.specs.Instant.{is_instant_of}
use Rattle.numbers.specs.Refusals.{refused_instant, refused_length, refused_counter}
use Rattle.accounts.specs.Accountant.{sent_of, resets_of, merged_of}
use Rattle.accounts.specs.declared.accountant.SendAccountant.{SendAccountant}
use Rattle.steps.specs.declared.decision.Decision.{Decision}
use Rattle.steps.specs.declared.decision.Decision.TheVariants.{DropRandom, DropGe, DropMtu, DropBlackout, DropKillHold, Enqueue, KillRst}
use Rattle.engine.specs.Changes.{overflowed_of, rebound_of}
use Rattle.engine.specs.Decide.{decide_passed_of}
use Rattle.engine.specs.declared.engine.ArrivalEngine.{ArrivalEngine}
use Rattle.held.specs.Copies.{Copy, copy, without, Leaving, no_copy, one_copy, leaving}
use Rattle.machine.specs.Machine.{Machine, machine, in_range}
use Rattle.machine.specs.Calls.{Call, arrive, release, rebind, teardown, report, Answer, decided, released, none_due, rebound, tore_down, reported, refused}

pub record Step : Type 0 where
  pub answer : Answer
  pub then : Machine

abbrev pub step_to : Answer → Machine → Step
step_to a m = record { answer = a; then = m }

-- ---- refusals: 21, 22, 25, those that apply

-- the tests of a call, each passed or not
abbrev pub machine_checks : Machine → Bool → Bool → List Check
machine_checks m instant short = check instant refused_instant ∷ check short refused_length ∷ check (in_range m.engine m.accounts m.torn m.next_seq) refused_counter ∷ []

-- a refusal by that number, which changes nothing, or else the step where it is 0
abbrev pub unless_refused : Machine → ℕ → Step → Step
unless_refused m k s = cond (eqb k 0) s (step_to (refused k) m)

unfoldable pub unless : Machine → Bool → Bool → Step → Step
unless m instant short s = unless_refused m (first_failing (machine_checks m instant short)) s

-- ---- arrive(now, bytes, route)

abbrev pub with_engine : Machine → ArrivalEngine → Machine
with_engine m e = machine e m.cap m.width m.held m.next_seq m.accounts m.torn

-- the machine on the way, with the numbers of copies that have entered and overflowed
pub record Entry : Type 0 where
  pub then : Machine
  pub entered : ℕ
  pub overflowed : ℕ

abbrev pub entry : Machine → ℕ → ℕ → Entry
entry m i o = record { then = m; entered = i; overflowed = o }

-- the copy is the last of the held list and has the next seq
abbrev pub with_copy : Machine → Float → Float → ℕ → ℕ → List ℕ → Machine
with_copy m due now route id bytes =
    machine m.engine m.cap m.width (m.held ++ (copy due m.next_seq now route id (length bytes) bytes ∷ [])) (m.next_seq + 1) m.accounts m.torn

-- a copy that finds room enters with the next seq; another is counted as overflow by the engine
unfoldable pub enter_copy : Float → Float → ℕ → List ℕ → ℕ → Entry → Entry
enter_copy due now route bytes id e =
    cond (ltb (length e.then.held) e.then.cap) (entry (with_copy e.then due now route id bytes) (e.entered + 1) e.overflowed)
    (entry (with_engine e.then (overflowed_of e.then.engine 1)) e.entered (e.overflowed + 1))

-- the first copy has id 0, and a duplicated packet a second with id 1 and the same due
unfoldable pub enter_copies : Machine → Float → Bool → Float → List ℕ → ℕ → Entry
enter_copies m due duplicated now bytes route =
    let first = enter_copy due now route bytes 0 (entry m 0 0) in
    cond duplicated (enter_copy due now route bytes 1 first) first

-- all held copies are counted as torn
abbrev pub tear : Machine → Machine
tear m = machine m.engine m.cap m.width [] m.next_seq m.accounts (m.torn + length m.held)

abbrev pub with_accounts : Machine → SendAccountant → Machine
with_accounts m a = machine m.engine m.cap m.width m.held m.next_seq a m.torn

abbrev pub enters_as : Decision → Entry → Step
enters_as d e = step_to (decided d e.entered e.overflowed 0) e.then

-- what follows the decision; the machine has the engine that decided
unfoldable pub follow : Machine → Decision → Float → List ℕ → ℕ → Step
follow m DropRandom now bytes route = step_to (decided DropRandom 0 0 0) m
follow m DropGe now bytes route = step_to (decided DropGe 0 0 0) m
follow m DropMtu now bytes route = step_to (decided DropMtu 0 0 0) m
follow m DropBlackout now bytes route = step_to (decided DropBlackout 0 0 0) m
follow m DropKillHold now bytes route = step_to (decided DropKillHold 0 0 0) m
follow m (Enqueue due duplicated) now bytes route = enters_as (Enqueue due duplicated) (enter_copies m due duplicated now bytes route)
follow m KillRst now bytes route = step_to (decided KillRst 0 0 (length m.held)) (tear (with_accounts m (resets_of m.accounts 1)))

unfoldable pub arrive_step : Machine → Float → List ℕ → ℕ → Step
arrive_step m now bytes route =
    let d = decide_passed_of m.engine now (length bytes) in
    unless m (is_instant_of now) (leb (length bytes) m.width) (follow (with_engine m d.0) d.1 now bytes route)

-- ---- release(now)

-- the copy is held no more and is accounted; its latency is the time since its arrival
abbrev pub leave : Machine → Float → Copy → Machine
leave m now c = machine m.engine m.cap m.width (without c.seq m.held) m.next_seq (sent_of m.accounts c.length (sub binary64 now c.arrival)) m.torn

-- the copy that leaves is handed out
unfoldable pub hand_out : Machine → Float → Leaving → Step
hand_out m now no_copy = step_to none_due m
hand_out m now (one_copy c) = step_to (released c) (leave m now c)

-- the least of the held copies that are due
unfoldable pub release_step : Machine → Float → Step
release_step m now = unless m (is_instant_of now) true (hand_out m now (leaving now m.held))

-- ---- rebind(now): the engine's `should_rebind_now`

unfoldable pub rebind_step : Machine → Float → Step
rebind_step m now =
    unless m (is_instant_of now) true
    (cond (le m.engine.next_rebind_ms now) (step_to (rebound true) (with_engine m (rebound_of m.engine))) (step_to (rebound false) m))

-- ---- teardown: every held copy is torn, and the answer says how many

unfoldable pub teardown_step : Machine → Step
teardown_step m = unless m true true (step_to (tore_down (length m.held)) (tear m))

-- ---- report: the statistics of engine and accounts together, how many copies are held and how many were torn

unfoldable pub report_step : Machine → Step
report_step m = unless m true true (step_to (reported (merged_of m.accounts m.engine.stats) (length m.held) m.torn) m)

-- ---- a call, and a list of calls, each on what the last one left

unfoldable pub step : Machine → Call → Step
step m (arrive now bytes route) = arrive_step m now bytes route
step m (release now) = release_step m now
step m (rebind now) = rebind_step m now
step m teardown = teardown_step m
step m report = report_step m

unfoldable pub answers : Machine → List Call → List Answer
answers m [] = []
answers m (c ∷ cs) = (step m c).answer ∷ answers (step m c).then cs

unfoldable pub after_all : Machine → List Call → Machine
after_all m [] = m
after_all m (c ∷ cs) = after_all (step m c).then cs
