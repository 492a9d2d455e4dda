-- Demand 3's count: of one step, and of every list of calls.
use Rattle.std.specs.Prelude.{◌≡◌, Bool, true, false, List, [], ◌∷◌, ℕ, ◌+◌, ltb, Float, length}
use Rattle.std.proofs.Common.{arith, length-append}
use Rattle.numbers.specs.Laws.NotNan.{cond_has}
use Rattle.steps.specs.declared.decision.Decision.{Decision}
use Rattle.steps.specs.declared.decision.Decision.TheVariants.{DropRandom, DropGe, DropMtu, DropBlackout, DropKillHold, Enqueue, KillRst}
use Rattle.engine.specs.Counts.{one_if}
use Rattle.machine.specs.Machine.{Machine}
use Rattle.machine.specs.Calls.{Call}
use Rattle.machine.specs.Steps.{Step, Entry, entry, enter_copy, enter_copies, follow, step, answers, after_all}
use Rattle.machine.specs.Tally.{tally_of, total, came_in, accounted_for}
use Rattle.machine.proofs.Laws.Cases.{Does, refuses, decides, releases, finds_none, rebinds, address_stays, tears, reports, step_does}
use Rattle.machine.proofs.Laws.Held.{InOrder, one_leaves, step_order}

-- what came in with a step's answer, beside what was held, is accounted for
abbrev pub Balances : Machine → Step → Type 0
Balances m s = came_in (tally_of s.answer) + length m.held ≡ accounted_for (tally_of s.answer) (length s.then.held)

-- the copies that are held or overflowed
abbrev placed : Entry → ℕ
placed e = length e.then.held + e.overflowed

enter_places : (due now : Float) (route : ℕ) (bytes : List ℕ) (id : ℕ) (e : Entry) → placed (enter_copy due now route bytes id e) ≡ placed e + 1
unfolding enter_copy
enter_places due now route bytes id e = cond_has (λ (n : Entry). placed n ≡ placed e + 1) (ltb (length e.then.held) e.then.cap) (rw length-append (omega arith)) (omega arith)

enters_places : (m : Machine) (due : Float) (d : Bool) (now : Float) (bytes : List ℕ) (route : ℕ) → placed (enter_copies m due d now bytes route) ≡ length m.held + 1 + one_if d
unfolding enter_copies one_if
enters_places m due false now bytes route = omega (arith, enter_places due now route bytes 0 (entry m 0 0))
enters_places m due true now bytes route =
    omega (arith, enter_places due now route bytes 0 (entry m 0 0), enter_places due now route bytes 1 (enter_copy due now route bytes 0 (entry m 0 0)))

follow_balances : (m : Machine) (d : Decision) (now : Float) (bytes : List ℕ) (route : ℕ) → Balances m (follow m d now bytes route)
unfolding follow
follow_balances m DropRandom now bytes route = omega arith
follow_balances m DropGe now bytes route = omega arith
follow_balances m DropMtu now bytes route = omega arith
follow_balances m DropBlackout now bytes route = omega arith
follow_balances m DropKillHold now bytes route = omega arith
follow_balances m (Enqueue due duplicated) now bytes route = omega (arith, enters_places m due duplicated now bytes route)
follow_balances m KillRst now bytes route = omega arith

does_balances : {m : Machine} {c : Call} {s : Step} → Does m c s → InOrder m → Balances m s
does_balances (refuses c k r) h = omega arith
does_balances (decides now bytes route i l) h = follow_balances _ _ now bytes route
does_balances {m} (releases now c k) h = omega (arith, one_leaves m h c k)
does_balances (finds_none now) h = omega arith
does_balances (rebinds now) h = omega arith
does_balances (address_stays now) h = omega arith
does_balances tears h = omega arith
does_balances reports h = omega arith

pub step_balances : (m : Machine) (c : Call) → InOrder m → Balances m (step m c)
step_balances m c h = does_balances (step_does m c) h

pub all_balance : (m : Machine) → InOrder m → (cs : List Call) → came_in (total (answers m cs)) + length m.held ≡ accounted_for (total (answers m cs)) (length (after_all m cs).held)
unfolding answers after_all total
all_balance m h [] = omega arith
all_balance m h (c ∷ cs) = omega (arith, step_balances m c h, all_balance (step m c).then (step_order m c h) cs)
