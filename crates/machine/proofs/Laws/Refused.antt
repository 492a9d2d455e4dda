-- Which refusals come, and what a refused call and a report leave.
use Rattle.std.specs.Prelude.{◌≡◌, refl, ◌≢◌, List, ℕ, Float}
use Rattle.std.proofs.Common.{subst}
use Rattle.steps.specs.declared.decision.Decision.{Decision}
use Rattle.steps.specs.declared.decision.Decision.TheVariants.{DropRandom, DropGe, DropMtu, DropBlackout, DropKillHold, Enqueue, KillRst}
use Rattle.machine.specs.Machine.{Machine}
use Rattle.machine.specs.Calls.{Call, report, Refusal, refused}
use Rattle.machine.specs.Steps.{Step, follow, step}
use Rattle.machine.proofs.Laws.Cases.{Does, refuses, decides, releases, finds_none, rebinds, address_stays, tears, reports, step_does}

-- what follows a decision is no refusal
follow_taken : (m : Machine) (d : Decision) (now : Float) (bytes : List ℕ) (route k : ℕ) → (follow m d now bytes route).answer ≢ refused k
unfolding follow
follow_taken m DropRandom now bytes route k e = cc
follow_taken m DropGe now bytes route k e = cc
follow_taken m DropMtu now bytes route k e = cc
follow_taken m DropBlackout now bytes route k e = cc
follow_taken m DropKillHold now bytes route k e = cc
follow_taken m (Enqueue due duplicated) now bytes route k e = cc
follow_taken m KillRst now bytes route k e = cc

-- a refusal is 21, 22 or 25 and changes nothing
pub record Refuses (m : Machine) (s : Step) (k : ℕ) : Type 0 where
  pub one_of : Refusal k
  pub stays : s.then ≡ m

does_refuses : {m : Machine} {c : Call} {s : Step} → Does m c s → (k : ℕ) → s.answer ≡ refused k → Refuses m s k
does_refuses (refuses c n r) k e = let same : n ≡ k = cc in record { one_of = subst Refusal same r; stays = refl }
does_refuses (decides now bytes route i l) k e = absurd (follow_taken _ _ now bytes route k e)
does_refuses (releases now c h) k e = cc
does_refuses (finds_none now) k e = cc
does_refuses (rebinds now) k e = cc
does_refuses (address_stays now) k e = cc
does_refuses tears k e = cc
does_refuses reports k e = cc

pub step_refuses : (m : Machine) (c : Call) (k : ℕ) → (step m c).answer ≡ refused k → Refuses m (step m c) k
step_refuses m c = does_refuses (step_does m c)

report_does : {m : Machine} {s : Step} → Does m report s → s.then ≡ m
report_does (refuses c k r) = refl
report_does reports = refl

pub report_changes_nothing : (m : Machine) → (step m report).then ≡ m
report_changes_nothing m = report_does (step_does m report)
