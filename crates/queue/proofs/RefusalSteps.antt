-- What a call that meets no refusal has passed.
use Rattle.std.proofs.Common.{◌≡◌, true, not, ℕ, ◌<◌, ◌≤◌, Bool, Ok}
use Rattle.std.specs.Prelude.{Float, leb, eqb}
use Rattle.std.specs.Float.Ieee.{is_nan}
use borrow.Author.Tests.{leb-true}
use Rattle.numbers.specs.Instant.{is_instant_of}
use Rattle.numbers.specs.Limits.{max_capacity, max_width, is_width_of, counter_limit, is_counter_of}
use Rattle.numbers.specs.Laws.Both.{both_true}
use Rattle.numbers.specs.Laws.Checks.{none_refused}
use Rattle.numbers.specs.Laws.Limits.{counter_below, width_within}
use Rattle.queue.specs.Refusals.{queue_checks, in_keeping, push_refusal, release_refusal}
use Rattle.queue.specs.declared.queue.ImpairQueue.{ImpairQueue}

-- a state whose numbers can stand together
pub record Sound (q : ImpairQueue) : Type 0 where
  pub cap_within : q.cap ≤ max_capacity
  pub leaves_within : q.leaves ≤ q.cap
  pub opened_within : q.opened ≤ q.leaves
  pub held_within : q.held ≤ q.opened
  pub width_below : q.width ≤ max_width

sound : (q : ImpairQueue) → in_keeping q ≡ true → Sound q
unfolding in_keeping
sound q keeping =
    let width = both_true _ (is_width_of q.width) keeping in
    let held = both_true _ (leb q.held q.opened) width.0 in
    let opened = both_true _ (leb q.opened q.leaves) held.0 in
    let leaves = both_true (leb q.cap max_capacity) (leb q.leaves q.cap) opened.0 in
    record {
      cap_within = leb-true _ _ leaves.0;
      leaves_within = leb-true _ _ leaves.1;
      opened_within = leb-true _ _ opened.1;
      held_within = leb-true _ _ held.1;
      width_below = (width_within q.width width.1).1;
    }

-- a push that meets no refusal
pub record Passed (q : ImpairQueue) (len : ℕ) : Type 0 where
  pub state : Sound q
  pub seq : q.next_seq < counter_limit
  pub fits : len ≤ q.width

pub push_passed : (q : ImpairQueue) (memory : Bool) (due arrival : Float) (len : ℕ) → push_refusal q memory due arrival len ≡ Ok tt → Passed q len
unfolding push_refusal
push_passed q memory due arrival len h =
    let all = none_refused (queue_checks memory (is_instant_of arrival) (leb len q.width) (not (is_nan due)) (is_counter_of q.next_seq) (in_keeping q) (not (eqb q.held q.cap))) h in
    record { state = sound q all.1.1.1.1.1.0; seq = counter_below q.next_seq all.1.1.1.1.0; fits = leb-true len q.width all.1.1.0 }

pub release_passed : (q : ImpairQueue) (memory : Bool) (now : Float) → release_refusal q memory now ≡ Ok tt → Sound q
unfolding release_refusal
release_passed q memory now h =
    let all = none_refused (queue_checks memory (is_instant_of now) true true (is_counter_of q.next_seq) (in_keeping q) true) h in
    sound q all.1.1.1.1.1.0
