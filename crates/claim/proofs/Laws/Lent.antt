-- What a call is lent to be read stays as it was: an arrival reads `free`, and a release what lies beside the keys.
use Rattle.std.specs.Prelude.{◌≡◌, refl, Bool, List, ℕ, eqb, leb, Float, length, get_or, Option}
use Rattle.std.proofs.Common.{◌∙◌}
use Rattle.std.specs.Float.Ieee.{le}
use Rattle.numbers.specs.Laws.Checks.{unless_has}
use Rattle.numbers.specs.Laws.NotNan.{cond_has}
use Rattle.numbers.specs.Whole.{whole}
use Rattle.steps.specs.declared.decision.Decision.{Decision}
use Rattle.steps.specs.declared.decision.Decision.TheVariants.{DropRandom, DropGe, DropMtu, DropBlackout, DropKillHold, Enqueue, KillRst}
use Rattle.engine.specs.Decide.{decide_passed_of}
use Rattle.tournament.specs.Calls.{fits_of, least_of}
use Rattle.queue.specs.Calls.{Handed as HandedQueue, next_slot, AfterCopy, entered_of, enter_copy_of, again_of, second_of, enter_copies_of, push_of, left_of, due_of, release_of as queue_release_of}
use Rattle.queue.specs.Refusals.{memory_of, push_refusal, release_refusal as queue_refusal}
use Rattle.queue.specs.Tables.{Tables, After, rows_of}
use Rattle.queue.specs.declared.answers.Entered.{Entered}
use Rattle.queue.specs.declared.answers.Queued.{Queued}
use Rattle.queue.specs.declared.queue.ImpairQueue.{ImpairQueue}
use Rattle.admission.specs.Follow.{copies_of, follow_of}
use Rattle.device.specs.Arrive.{arrive_refusal, arrive_of}
use Rattle.device.specs.Parts.{Handed}
use Rattle.device.specs.Release.{release_refusal, release_of}
use Rattle.device.specs.declared.arrive.Arrived.{Arrived}
use Rattle.device.specs.declared.device.Device.{Device}

-- ---- an arrival

copy_free : (q : ImpairQueue) (t : Tables) (due now : Float) (route id : ℕ) (bytes : List ℕ) → (enter_copy_of q t due now route id bytes).memory.free ≡ t.free
unfolding enter_copy_of entered_of
copy_free q t due now route id bytes = cond_has (λ (o : AfterCopy). o.memory.free ≡ t.free) (fits_of q.cap q.leaves (next_slot q t.free)) refl refl

push_free : (q : ImpairQueue) (t : Tables) (due now : Float) (route id : ℕ) (duplicated : Bool) (bytes : List ℕ) → (push_of q t due now route id duplicated bytes).memory.free ≡ t.free
unfolding push_of enter_copies_of second_of
push_free q t due now route id duplicated bytes =
    let one = enter_copy_of q t due now route id bytes in
    let first = copy_free q t due now route id bytes in
    unless_has (λ (o : After (HandedQueue Entered)). o.memory.free ≡ t.free) (push_refusal q (memory_of q.width q.cap t) due now (length bytes))
    (cond_has (λ (o : After (HandedQueue Entered)). o.memory.free ≡ t.free) (again_of duplicated one.gives) (copy_free one.gives.0 one.memory due now route 1 bytes ∙ first) first)
    (λ e. refl)

follow_free : (q : ImpairQueue) (t : Tables) (d : Decision) (now : Float) (route : ℕ) (bytes : List ℕ) → (follow_of q t d now route bytes).memory.free ≡ t.free
unfolding follow_of copies_of
follow_free q t DropRandom now route bytes = refl
follow_free q t DropGe now route bytes = refl
follow_free q t DropMtu now route bytes = refl
follow_free q t DropBlackout now route bytes = refl
follow_free q t DropKillHold now route bytes = refl
follow_free q t (Enqueue due duplicated) now route bytes = push_free q t due now route 0 duplicated bytes
follow_free q t KillRst now route bytes = refl

pub arrive_free : (v : Device) (t : Tables) (now : Float) (bytes : List ℕ) (route : ℕ) → (arrive_of v t now bytes route).memory.free ≡ t.free
unfolding arrive_of
arrive_free v t now bytes route =
    unless_has (λ (o : After (Handed Arrived)). o.memory.free ≡ t.free) (arrive_refusal v t now (length bytes))
    (follow_free v.queue t (decide_passed_of v.engine now (length bytes)).1 now route bytes)
    (λ e. refl)

-- ---- a release

queue_rows : (q : ImpairQueue) (t : Tables) (now : Float) → rows_of (queue_release_of q t now).memory ≡ rows_of t
unfolding queue_release_of due_of left_of
queue_rows q t now =
    unless_has Stay (queue_refusal q (memory_of q.width q.cap t) now)
    (cond_has Stay (eqb q.held 0) refl
    (cond_has Stay (leb q.leaves (least_of t.win q.leaves)) refl
    (cond_has Stay (le (get_or t.dues (least_of t.win q.leaves) (whole 0)) now) refl refl)))
    (λ e. refl)
  where
    Stay : After (HandedQueue (Option Queued)) → Type 0
    Stay o = rows_of o.memory ≡ rows_of t

pub release_rows : (v : Device) (t : Tables) (now : Float) → rows_of (release_of v t now).memory ≡ rows_of t
unfolding release_of
release_rows v t now =
    unless_has (λ (o : After (Handed (Option Queued))). rows_of o.memory ≡ rows_of t) (release_refusal v t now) (queue_rows v.queue t now) (λ e. refl)
