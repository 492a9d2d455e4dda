-- What each count can be, whatever the state and the memory were: at most two copies enter or overflow, and at most one reset tears at most a queue's capacity.
use Rattle.std.specs.Prelude.{◌≡◌, Bool, true, false, not, ◌&&◌, List, ℕ, ◌≤◌, T, leb, eqb, Float, length, Result, Ok, Err, IfOk}
use Rattle.std.specs.Result.{is_ok}
use Rattle.std.proofs.Common.{arith, leb-true}
use Rattle.numbers.specs.Laws.Both.{both_true}
use Rattle.numbers.specs.Laws.Checks.{none_refused, unless_has, unless_when}
use Rattle.numbers.specs.Laws.NotNan.{cond_when, cond_has}
use Rattle.numbers.specs.Limits.{max_capacity, is_width_of, is_counter_of}
use Rattle.numbers.specs.Refusals.{number_of, refused_full}
use Rattle.numbers.specs.declared.refusal.Refusal.{Refusal}
use Rattle.queue.specs.Calls.{Handed, AfterCopy, enter_copy_of, told_by, told, again_of, second_of, enter_copies_of, push_of, drain_of}
use Rattle.queue.specs.Refusals.{queue_checks, in_keeping, memory_of, push_refusal, state_refusal}
use Rattle.queue.specs.Tables.{Tables, After}
use Rattle.queue.specs.declared.answers.Entered.{Entered}
use Rattle.queue.specs.declared.queue.ImpairQueue.{ImpairQueue}
use Rattle.steps.specs.declared.decision.Decision.{Decision}
use Rattle.steps.specs.declared.decision.Decision.TheVariants.{DropRandom, DropGe, DropMtu, DropBlackout, DropKillHold, Enqueue, KillRst}
use Rattle.admission.specs.Admitted.{untouched, asked_of, copies_in, tallied_by, torn_by, torn_of}
use Rattle.admission.specs.Follow.{copies_of, follow_of}
use Rattle.admission.specs.declared.admitted.Admitted.{Admitted}

pub record Bounds (a : Admitted) : Type 0 where
  pub entered_within : a.entered ≤ 2
  pub overflowed_within : a.overflowed ≤ 2
  pub torn_within : a.torn ≤ max_capacity
  pub resets_within : a.resets ≤ 1

-- what is counted where something is: where state or memory was altered nothing is
abbrev pub BoundsOn : Result Admitted Refusal → Type 0
BoundsOn r = IfOk r Bounds

-- ---- the copies of a packet

-- no more copies enter than a packet has
abbrev Within : Bool → Handed Entered → Type 0
Within duplicated p = copies_in p.1 ≤ asked_of duplicated

told_within : (duplicated : Bool) (seq copies : ℕ) (o : AfterCopy) → copies ≤ asked_of duplicated → Within duplicated (told seq copies o).gives
unfolding told_by copies_in
told_within duplicated seq copies o h = go o.gives.1
  where
    go : (r : Result (Unit {0}) Refusal) → copies_in (told_by r seq copies) ≤ asked_of duplicated
    go (Ok u) = h
    go (Err e) = omega arith

one_asked : (duplicated : Bool) → 1 ≤ asked_of duplicated
one_asked duplicated = cond_has (λ (n : ℕ). 1 ≤ n) duplicated (omega arith) (omega arith)

two_asked : (fits duplicated room : Bool) → T (fits && duplicated && room) → 2 ≤ asked_of duplicated
two_asked true true room h = omega arith
two_asked true false room h = absurd h
two_asked false duplicated room h = absurd h

pub push_within : (q : ImpairQueue) (t : Tables) (due arrival : Float) (route id : ℕ) (duplicated : Bool) (bytes : List ℕ)
    → Within duplicated (push_of q t due arrival route id duplicated bytes).gives
unfolding push_of enter_copies_of second_of copies_in
push_within q t due arrival route id duplicated bytes =
    let one = enter_copy_of q t due arrival route id bytes in
    unless_has (λ (o : After (Handed Entered)). Within duplicated o.gives) (push_refusal q (memory_of q.width q.cap t) due arrival (length bytes))
    (cond_when (λ (o : After (Handed Entered)). Within duplicated o.gives) (again_of duplicated one.gives)
    (λ h. told_within duplicated q.next_seq 2 (enter_copy_of one.gives.0 one.memory due arrival route 1 bytes) (two_asked (is_ok one.gives.1) duplicated (not (eqb one.gives.0.held one.gives.0.cap)) h))
    (told_within duplicated q.next_seq 1 one (one_asked duplicated)))
    (λ e. omega arith)

tallied_bounds : (p : Result Entered Refusal) (asked : ℕ) → copies_in p ≤ asked → asked ≤ 2 → BoundsOn (tallied_by p asked)
unfolding tallied_by copies_in
tallied_bounds (Ok e) asked h small = record { entered_within = omega (arith, h, small); overflowed_within = omega (arith, h, small); torn_within = omega arith; resets_within = omega arith }
tallied_bounds (Err e) asked h small =
    cond_has BoundsOn (eqb (number_of e) refused_full)
    (record { entered_within = omega arith; overflowed_within = small; torn_within = omega arith; resets_within = omega arith })
    tt

copies_bounds : (q : ImpairQueue) (t : Tables) (duplicated : Bool) (due now : Float) (route : ℕ) (bytes : List ℕ) → BoundsOn (copies_of q t duplicated due now route bytes).gives.1
unfolding copies_of
copies_bounds q t duplicated due now route bytes =
    tallied_bounds (push_of q t due now route 0 duplicated bytes).gives.1 (asked_of duplicated)
    (push_within q t due now route 0 duplicated bytes) (cond_has (λ (n : ℕ). n ≤ 2) duplicated (omega arith) (omega arith))

-- ---- a reset

keeping_within : (q : ImpairQueue) → in_keeping q ≡ true → q.held ≤ max_capacity
unfolding in_keeping
keeping_within q keeping =
    let width = both_true _ (is_width_of q.width) keeping in
    let held = both_true _ (leb q.held q.opened) width.0 in
    let opened = both_true _ (leb q.opened q.leaves) held.0 in
    let leaves = both_true (leb q.cap max_capacity) (leb q.leaves q.cap) opened.0 in
    omega (arith, leb-true q.held q.opened held.1, leb-true q.opened q.leaves opened.1, leb-true q.leaves q.cap leaves.1, leb-true q.cap max_capacity leaves.0)

held_within : (q : ImpairQueue) → state_refusal q true ≡ Ok tt → q.held ≤ max_capacity
unfolding state_refusal
held_within q h = keeping_within q (none_refused (queue_checks true true true true (is_counter_of q.next_seq) (in_keeping q) true) h).1.1.1.1.1.0

abbrev TornBounds : Handed ℕ → Type 0
TornBounds o = BoundsOn (torn_by o.1)

torn_bounds : (q : ImpairQueue) → BoundsOn (torn_of q).1
unfolding torn_of torn_by drain_of
torn_bounds q =
    unless_when TornBounds (state_refusal q true)
    (λ h. record { entered_within = omega arith; overflowed_within = omega arith; torn_within = held_within q h; resets_within = omega arith })
    (λ e h. tt)

-- ---- all decisions

untouched_bounds : (q : ImpairQueue) → BoundsOn (untouched q).1
untouched_bounds q = record { entered_within = omega arith; overflowed_within = omega arith; torn_within = omega arith; resets_within = omega arith }

pub follow_bounds : (q : ImpairQueue) (t : Tables) (d : Decision) (now : Float) (route : ℕ) (bytes : List ℕ) → BoundsOn (follow_of q t d now route bytes).gives.1
unfolding follow_of
follow_bounds q t DropRandom now route bytes = untouched_bounds q
follow_bounds q t DropGe now route bytes = untouched_bounds q
follow_bounds q t DropMtu now route bytes = untouched_bounds q
follow_bounds q t DropBlackout now route bytes = untouched_bounds q
follow_bounds q t DropKillHold now route bytes = untouched_bounds q
follow_bounds q t (Enqueue due duplicated) now route bytes = copies_bounds q t duplicated due now route bytes
follow_bounds q t KillRst now route bytes = torn_bounds q
