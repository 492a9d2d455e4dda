-- No step changes the width, and machines that differ in it alone answer alike where each packet fits both.
use Rattle.std.specs.Prelude.{◌≡◌, refl, Bool, true, false, List, [], ◌∷◌, ℕ, ◌≤◌, ltb, eqb, Float, length}
use Rattle.std.proofs.Common.{sym, ap, ◌∙◌, subst, le-leb}
use Rattle.std.specs.Float.Ieee.{le}
use Rattle.numbers.specs.Checks.{first_failing}
use Rattle.numbers.specs.Instant.{is_instant_of}
use Rattle.numbers.specs.Laws.NotNan.{cond_has}
use Rattle.steps.specs.declared.decision.Decision.{Decision}
use Rattle.steps.specs.declared.decision.Decision.TheVariants.{DropRandom, DropGe, DropMtu, DropBlackout, DropKillHold, Enqueue, KillRst}
use Rattle.held.specs.Copies.{Leaving, no_copy, one_copy, leaving}
use Rattle.machine.specs.Machine.{Machine, machine}
use Rattle.machine.specs.Calls.{Call, arrive, release, rebind, teardown, report, Answer}
use Rattle.machine.specs.Steps.{Step, step_to, machine_checks, unless, Entry, entry, enter_copy, enter_copies, enters_as, follow, arrive_step, hand_out, release_step, rebind_step, teardown_step, report_step, step, answers}
use Rattle.machine.specs.Widths.{Fits, AllFit}
use Rattle.machine.proofs.Laws.Cases.{Does, refuses, decides, releases, finds_none, rebinds, address_stays, tears, reports, step_does, enters_have, either}

-- ---- the width stays

follow_width : (m : Machine) (d : Decision) (now : Float) (bytes : List ℕ) (route : ℕ) → (follow m d now bytes route).then.width ≡ m.width
unfolding follow enter_copy
follow_width m DropRandom now bytes route = refl
follow_width m DropGe now bytes route = refl
follow_width m DropMtu now bytes route = refl
follow_width m DropBlackout now bytes route = refl
follow_width m DropKillHold now bytes route = refl
follow_width m (Enqueue due duplicated) now bytes route =
    enters_have (λ (e : Entry). e.then.width ≡ m.width) m due duplicated now bytes route
    (λ (id : ℕ) (e : Entry) (h : e.then.width ≡ m.width). cond_has (λ (n : Entry). n.then.width ≡ m.width) (ltb (length e.then.held) e.then.cap) h h) refl
follow_width m KillRst now bytes route = refl

does_width : {m : Machine} {c : Call} {s : Step} → Does m c s → s.then.width ≡ m.width
does_width (refuses c k r) = refl
does_width (decides now bytes route instant short) = follow_width _ _ now bytes route
does_width (releases now c k) = refl
does_width (finds_none now) = refl
does_width (rebinds now) = refl
does_width (address_stays now) = refl
does_width tears = refl
does_width reports = refl

pub step_width : (m : Machine) (c : Call) → (step m c).then.width ≡ m.width
step_width m c = does_width (step_does m c)

-- ---- another width

abbrev with_width : ℕ → Machine → Machine
with_width w m = machine m.engine m.cap w m.held m.next_seq m.accounts m.torn

abbrev step_with : ℕ → Step → Step
step_with w s = step_to s.answer (with_width w s.then)

abbrev entry_with : ℕ → Entry → Entry
entry_with w e = entry (with_width w e.then) e.entered e.overflowed

unless_with : (w : ℕ) (m : Machine) (instant short : Bool) (s : Step) → step_with w (unless m instant short s) ≡ unless (with_width w m) instant short (step_with w s)
unfolding unless
unless_with w m i l s = either (step_with w) (eqb (first_failing (machine_checks m i l)) 0) refl refl

enter_with : (w : ℕ) (due now : Float) (route : ℕ) (bytes : List ℕ) (id : ℕ) (e : Entry) → entry_with w (enter_copy due now route bytes id e) ≡ enter_copy due now route bytes id (entry_with w e)
unfolding enter_copy
enter_with w due now route bytes id e = either (entry_with w) (ltb (length e.then.held) e.then.cap) refl refl

enters_with : (w : ℕ) (m : Machine) (due : Float) (duplicated : Bool) (now : Float) (bytes : List ℕ) (route : ℕ)
    → entry_with w (enter_copies m due duplicated now bytes route) ≡ enter_copies (with_width w m) due duplicated now bytes route
unfolding enter_copies
enters_with w m due false now bytes route = enter_with w due now route bytes 0 (entry m 0 0)
enters_with w m due true now bytes route =
    enter_with w due now route bytes 1 (enter_copy due now route bytes 0 (entry m 0 0)) ∙ ap (enter_copy due now route bytes 1) (enter_with w due now route bytes 0 (entry m 0 0))

follow_with : (w : ℕ) (m : Machine) (d : Decision) (now : Float) (bytes : List ℕ) (route : ℕ) → step_with w (follow m d now bytes route) ≡ follow (with_width w m) d now bytes route
unfolding follow
follow_with w m DropRandom now bytes route = refl
follow_with w m DropGe now bytes route = refl
follow_with w m DropMtu now bytes route = refl
follow_with w m DropBlackout now bytes route = refl
follow_with w m DropKillHold now bytes route = refl
follow_with w m (Enqueue due duplicated) now bytes route = ap (enters_as (Enqueue due duplicated)) (enters_with w m due duplicated now bytes route)
follow_with w m KillRst now bytes route = refl

hand_with : (w : ℕ) (m : Machine) (now : Float) (x : Leaving) → step_with w (hand_out m now x) ≡ hand_out (with_width w m) now x
unfolding hand_out
hand_with w m now no_copy = refl
hand_with w m now (one_copy c) = refl

-- a packet that fits both
arrive_with : (w : ℕ) (m : Machine) (now : Float) (bytes : List ℕ) (route : ℕ) → length bytes ≤ m.width → length bytes ≤ w
    → step_with w (arrive_step m now bytes route) ≡ arrive_step (with_width w m) now bytes route
unfolding arrive_step
arrive_with w m now bytes route own other =
    rw (le-leb (length bytes) m.width own, le-leb (length bytes) w other)
    (unless_with w m (is_instant_of now) true _ ∙ ap (unless (with_width w m) (is_instant_of now) true) (follow_with w _ _ now bytes route))

step_alike : (w : ℕ) (m : Machine) (c : Call) → Fits m.width c → Fits w c → step_with w (step m c) ≡ step (with_width w m) c
unfolding step release_step rebind_step teardown_step report_step
step_alike w m (arrive now bytes route) own other = arrive_with w m now bytes route own other
step_alike w m (release now) own other = unless_with w m (is_instant_of now) true _ ∙ ap (unless (with_width w m) (is_instant_of now) true) (hand_with w m now (leaving now m.held))
step_alike w m (rebind now) own other = unless_with w m (is_instant_of now) true _ ∙ ap (unless (with_width w m) (is_instant_of now) true) (either (step_with w) (le m.engine.next_rebind_ms now) refl refl)
step_alike w m teardown own other = unless_with w m true true _
step_alike w m report own other = unless_with w m true true _

pub all_alike : (w n : ℕ) (m : Machine) → m.width ≡ n → (cs : List Call) → AllFit n cs → AllFit w cs → answers (with_width w m) cs ≡ answers m cs
unfolding answers
all_alike w n m same [] own other = refl
all_alike w n m same (c ∷ cs) own other =
    ap (λ (s : Step). s.answer ∷ answers s.then cs) (sym (step_alike w m c (subst (λ (k : ℕ). Fits k c) (sym same) own.0) other.0))
    ∙ ap (λ (l : List Answer). (step m c).answer ∷ l) (all_alike w n (step m c).then (step_width m c ∙ same) cs own.1 other.1)
