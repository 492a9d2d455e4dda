-- A machine whose copies have lost their bytes and routes answers calls that have lost theirs as the machine answers the calls: nothing else looks at them.
use Rattle.std.specs.Prelude.{◌≡◌, refl, Bool, true, false, cond, List, [], ◌∷◌, map, ℕ, leb, ltb, eqb, Float, length}
use Rattle.std.proofs.Common.{ap, ◌∙◌}
use Rattle.std.proofs.lemmas.List.{length-map, map-append, length-replicate}
use Rattle.std.specs.Float.Ieee.{le}
use Rattle.numbers.specs.Checks.{first_failing}
use Rattle.numbers.specs.Instant.{is_instant_of}
use Rattle.steps.specs.declared.decision.Decision.{Decision}
use Rattle.steps.specs.declared.decision.Decision.TheVariants.{DropRandom, DropGe, DropMtu, DropBlackout, DropKillHold, Enqueue, KillRst}
use Rattle.held.specs.Order.{before_of}
use Rattle.held.specs.Copies.{Copy, least, without, due_by, Leaving, no_copy, one_copy, least_in, leaving}
use Rattle.machine.specs.Machine.{Machine, machine, Creation, fresh_machine}
use Rattle.machine.specs.Calls.{Call, arrive, release, rebind, teardown, report, Answer}
use Rattle.machine.specs.Steps.{Step, step_to, machine_checks, unless, Entry, entry, enter_copy, enter_copies, with_copy, enters_as, follow, arrive_step, hand_out, release_step, rebind_step, teardown_step, report_step, step, answers}
use Rattle.machine.proofs.Laws.Cases.{either}
use Rattle.machine.specs.Bare.{blank, bare_call, bare_copy, bare_answer, bare_calls, bare_answers}

abbrev pub bare_machine : Machine → Machine
bare_machine m = machine m.engine m.cap m.width (map bare_copy m.held) m.next_seq m.accounts m.torn

abbrev pub bare_step : Step → Step
bare_step s = step_to (bare_answer s.answer) (bare_machine s.then)

abbrev bare_entry : Entry → Entry
bare_entry e = entry (bare_machine e.then) e.entered e.overflowed

-- ---- lists

-- the least is the same, and so are the copy that leaves and those that stay
bare_least : (c : Copy) (l : List Copy) → bare_copy (least c l) ≡ least (bare_copy c) (map bare_copy l)
unfolding least
bare_least c [] = refl
bare_least c (x ∷ l) =
    bare_least (cond (before_of x.due x.seq c.due c.seq) x c) l
    ∙ ap (λ (k : Copy). least k (map bare_copy l)) (either bare_copy (before_of x.due x.seq c.due c.seq) refl refl)

bare_due : (now : Float) (l : List Copy) → map bare_copy (due_by now l) ≡ due_by now (map bare_copy l)
unfolding due_by
bare_due now [] = refl
bare_due now (c ∷ l) = either (map bare_copy) (le c.due now) (ap (λ (k : List Copy). bare_copy c ∷ k) (bare_due now l)) (bare_due now l)

abbrev bare_leaving : Leaving → Leaving
bare_leaving no_copy = no_copy
bare_leaving (one_copy c) = one_copy (bare_copy c)

bare_least_in : (l : List Copy) → bare_leaving (least_in l) ≡ least_in (map bare_copy l)
unfolding least_in
bare_least_in [] = refl
bare_least_in (c ∷ l) = ap one_copy (bare_least c l)

bare_leaving_lem : (now : Float) (l : List Copy) → bare_leaving (leaving now l) ≡ leaving now (map bare_copy l)
unfolding leaving
bare_leaving_lem now l = bare_least_in (due_by now l) ∙ ap least_in (bare_due now l)

bare_without : (seq : ℕ) (l : List Copy) → map bare_copy (without seq l) ≡ without seq (map bare_copy l)
unfolding without
bare_without seq [] = refl
bare_without seq (c ∷ l) = either (map bare_copy) (eqb c.seq seq) (bare_without seq l) (ap (λ (k : List Copy). bare_copy c ∷ k) (bare_without seq l))

-- ---- steps

bare_unless : (m : Machine) (instant short : Bool) (s : Step) → bare_step (unless m instant short s) ≡ unless (bare_machine m) instant short (bare_step s)
unfolding unless
bare_unless m i l s = either bare_step (eqb (first_failing (machine_checks m i l)) 0) refl refl

bare_copy_lem : (m : Machine) (due now : Float) (route id : ℕ) (bytes : List ℕ) → bare_machine (with_copy m due now route id bytes) ≡ with_copy (bare_machine m) due now 0 id (blank bytes)
bare_copy_lem m due now route id bytes = cc (map-append bare_copy m.held (_ ∷ []), length-replicate {A = ℕ} (length bytes) 0)

bare_enter : (due now : Float) (route : ℕ) (bytes : List ℕ) (id : ℕ) (e : Entry) → bare_entry (enter_copy due now route bytes id e) ≡ enter_copy due now 0 (blank bytes) id (bare_entry e)
unfolding enter_copy
bare_enter due now route bytes id e =
    rw (length-map e.then.held bare_copy) (either bare_entry (ltb (length e.then.held) e.then.cap) (cc (bare_copy_lem e.then due now route id bytes)) refl)

bare_enters : (m : Machine) (due : Float) (duplicated : Bool) (now : Float) (bytes : List ℕ) (route : ℕ)
    → bare_entry (enter_copies m due duplicated now bytes route) ≡ enter_copies (bare_machine m) due duplicated now (blank bytes) 0
unfolding enter_copies
bare_enters m due false now bytes route = bare_enter due now route bytes 0 (entry m 0 0)
bare_enters m due true now bytes route =
    bare_enter due now route bytes 1 (enter_copy due now route bytes 0 (entry m 0 0)) ∙ ap (enter_copy due now 0 (blank bytes) 1) (bare_enter due now route bytes 0 (entry m 0 0))

bare_follow : (m : Machine) (d : Decision) (now : Float) (bytes : List ℕ) (route : ℕ) → bare_step (follow m d now bytes route) ≡ follow (bare_machine m) d now (blank bytes) 0
unfolding follow
bare_follow m DropRandom now bytes route = refl
bare_follow m DropGe now bytes route = refl
bare_follow m DropMtu now bytes route = refl
bare_follow m DropBlackout now bytes route = refl
bare_follow m DropKillHold now bytes route = refl
bare_follow m (Enqueue due duplicated) now bytes route = ap (enters_as (Enqueue due duplicated)) (bare_enters m due duplicated now bytes route)
bare_follow m KillRst now bytes route = cc (length-map m.held bare_copy)

bare_hand : (m : Machine) (now : Float) (x : Leaving) → bare_step (hand_out m now x) ≡ hand_out (bare_machine m) now (bare_leaving x)
unfolding hand_out
bare_hand m now no_copy = refl
bare_hand m now (one_copy c) = cc (bare_without c.seq m.held)

bare_release : (m : Machine) (now : Float) → bare_step (hand_out m now (leaving now m.held)) ≡ hand_out (bare_machine m) now (leaving now (map bare_copy m.held))
bare_release m now = bare_hand m now (leaving now m.held) ∙ ap (hand_out (bare_machine m) now) (bare_leaving_lem now m.held)

bare_arrive : (m : Machine) (now : Float) (bytes : List ℕ) (route : ℕ) → bare_step (arrive_step m now bytes route) ≡ arrive_step (bare_machine m) now (blank bytes) 0
unfolding arrive_step
bare_arrive m now bytes route =
    bare_unless m (is_instant_of now) (leb (length bytes) m.width) _
    ∙ ap (unless (bare_machine m) (is_instant_of now) (leb (length bytes) m.width)) (bare_follow _ _ now bytes route)
    ∙ cc (length-replicate {A = ℕ} (length bytes) 0)

pub bare_step_lem : (m : Machine) (c : Call) → bare_step (step m c) ≡ step (bare_machine m) (bare_call c)
unfolding step release_step rebind_step teardown_step report_step
bare_step_lem m (arrive now bytes route) = bare_arrive m now bytes route
bare_step_lem m (release now) = bare_unless m (is_instant_of now) true _ ∙ ap (unless (bare_machine m) (is_instant_of now) true) (bare_release m now)
bare_step_lem m (rebind now) = bare_unless m (is_instant_of now) true _ ∙ ap (unless (bare_machine m) (is_instant_of now) true) (either bare_step (le m.engine.next_rebind_ms now) refl refl)
bare_step_lem m teardown = bare_unless m true true _ ∙ ap (unless (bare_machine m) true true) (cc (length-map m.held bare_copy))
bare_step_lem m report = bare_unless m true true _ ∙ ap (unless (bare_machine m) true true) (cc (length-map m.held bare_copy))

pub bare_answers_lem : (m : Machine) (cs : List Call) → bare_answers (answers m cs) ≡ answers (bare_machine m) (bare_calls cs)
unfolding answers
bare_answers_lem m [] = refl
bare_answers_lem m (c ∷ cs) =
    ap (λ (l : List Answer). bare_answer (step m c).answer ∷ l) (bare_answers_lem (step m c).then cs)
    ∙ ap (λ (s : Step). s.answer ∷ answers s.then (bare_calls cs)) (bare_step_lem m c)

-- a fresh machine holds no copies
pub fresh_bare : (made : Creation) → bare_machine (fresh_machine made) ≡ fresh_machine made
unfolding fresh_machine
fresh_bare made = refl
