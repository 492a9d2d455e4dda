-- A push that is refused by another number than 26, a release that hands out no copy and a drain that is refused change nothing: the state and every table
-- are as they were, whatever stood there.
use Rattle.std.specs.Prelude.{◌≡◌, refl, ◌≢◌, Bool, true, List, ℕ, leb, eqb, Float, length, get_or, Option, Some, Result, Ok, Err}
use Rattle.std.specs.Float.Ieee.{le}
use Rattle.numbers.specs.Laws.Checks.{unless_has}
use Rattle.numbers.specs.Laws.NotNan.{cond_has}
use Rattle.numbers.specs.Whole.{whole}
use Rattle.numbers.specs.declared.refusal.Refusal.{Refusal}
use Rattle.numbers.specs.declared.refusal.Refusal.TheVariants as refusal
use Rattle.tournament.specs.Calls.{fits_of, least_of}
use Rattle.queue.specs.Tables.{Tables, After, after}
use Rattle.queue.specs.Refusals.{memory_of, push_refusal, release_refusal, state_refusal}
use Rattle.queue.specs.Calls.{Handed, next_slot, not_pushed, AfterCopy, enter_copy_of, entered_of, told_by, told, again_of, second_of, enter_copies_of, push_of, not_released, left_of, due_of, release_of, drain_of}
use Rattle.queue.specs.declared.queue.ImpairQueue.{ImpairQueue}
use Rattle.queue.specs.declared.answers.Entered.{Entered}
use Rattle.queue.specs.declared.answers.Queued.{Queued}

-- what keeps a copy from entering is 26
copy_keeping : (q : ImpairQueue) (t : Tables) (due arrival : Float) (route id : ℕ) (bytes : List ℕ) (e : Refusal) → (enter_copy_of q t due arrival route id bytes).gives.1 ≡ Err e
    → e ≡ refusal.Keeping
unfolding enter_copy_of entered_of
copy_keeping q t due arrival route id bytes e =
    cond_has (λ (o : AfterCopy). o.gives.1 ≡ Err e → e ≡ refusal.Keeping) (fits_of q.cap q.leaves (next_slot q t.free)) (λ h. cc) (λ h. cc)

module _ (q : ImpairQueue) (t : Tables) where
  abbrev PushStays : After (Handed Entered) → Type 0
  PushStays o = (e : Refusal) → o.gives.1 ≡ Err e → e ≢ refusal.Keeping → o ≡ after (not_pushed q e) t

  told_stays : (seq copies : ℕ) (o : AfterCopy) → ((e : Refusal) → o.gives.1 ≡ Err e → e ≡ refusal.Keeping) → PushStays (told seq copies o)
  unfolding told_by
  told_stays seq copies o keeping e h other = go o.gives.1 refl h
    where
      go : (r : Result (Unit {0}) Refusal) → o.gives.1 ≡ r → told_by r seq copies ≡ Err e → told seq copies o ≡ after (not_pushed q e) t
      go (Ok u) er h = cc
      go (Err k) er h = absurd (other (keeping e (let z : k ≡ e = cc in cc)))

  pub push_stays : (due arrival : Float) (route id : ℕ) (duplicated : Bool) (bytes : List ℕ) → PushStays (push_of q t due arrival route id duplicated bytes)
  unfolding push_of enter_copies_of second_of
  push_stays due arrival route id duplicated bytes =
      let first = enter_copy_of q t due arrival route id bytes in
      unless_has PushStays (push_refusal q (memory_of q.width q.cap t) due arrival (length bytes))
      (cond_has PushStays (again_of duplicated first.gives) (told_stays q.next_seq 2 _ (copy_keeping first.gives.0 first.memory due arrival route 1 bytes))
      (told_stays q.next_seq 1 _ (copy_keeping q t due arrival route id bytes)))
      (λ k e h other. cc)

  abbrev ReleaseStays : After (Handed (Option Queued)) → Type 0
  ReleaseStays o = ((c : Queued) → o.gives.1 ≢ Ok (Some c)) → o ≡ not_released q o.gives.1 t

  pub release_stays : (now : Float) → ReleaseStays (release_of q t now)
  unfolding release_of due_of left_of
  release_stays now =
      unless_has ReleaseStays (release_refusal q (memory_of q.width q.cap t) now)
      (cond_has ReleaseStays (eqb q.held 0) (λ none. refl)
      (cond_has ReleaseStays (leb q.leaves (least_of t.win q.leaves)) (λ none. refl)
      (cond_has ReleaseStays (le (get_or t.dues (least_of t.win q.leaves) (whole 0)) now) (λ none. absurd (none _ refl)) (λ none. refl))))
      (λ e none. refl)

  abbrev DrainStays : Handed ℕ → Type 0
  DrainStays o = ((n : ℕ) → o.1 ≢ Ok n) → o ≡ (q, o.1)

  pub drain_stays : DrainStays (drain_of q)
  unfolding drain_of
  drain_stays = unless_has DrainStays (state_refusal q true) (λ none. absurd (none _ refl)) (λ e none. refl)
