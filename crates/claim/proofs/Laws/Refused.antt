-- A call that is refused by any number but 26 leaves the device and all nine tables as they were, whatever they were: what is found after the first tests is 26.
use Rattle.std.specs.Prelude.{◌≡◌, refl, ◌≢◌, Bool, true, List, ℕ, leb, eqb, Float, length, Option, None, Some, Result, Ok, Err, MatchResult}
use Rattle.std.proofs.Common.{sym, ap, ◌∙◌, subst, inl, inr, ⊎_elim, arith}
use Rattle.std.specs.Float.{binary64}
use Rattle.std.specs.Float.Ieee.{sub}
use Rattle.numbers.specs.Laws.Checks.{unless_has}
use Rattle.numbers.specs.Laws.NotNan.{cond_has}
use Rattle.numbers.specs.declared.refusal.Refusal.{Refusal as Reason}
use Rattle.numbers.specs.declared.refusal.Refusal.TheVariants as refusal
use Rattle.numbers.specs.Instant.{is_instant_of}
use Rattle.numbers.specs.Refusals.{number_of, refused_keeping, refused_full}
use Rattle.accounts.specs.Calls.{on_send_of}
use Rattle.steps.specs.declared.decision.Decision.{Decision}
use Rattle.steps.specs.declared.decision.Decision.TheVariants.{DropRandom, DropGe, DropMtu, DropBlackout, DropKillHold, Enqueue, KillRst}
use Rattle.engine.specs.Calls.{should_rebind_now_of}
use Rattle.engine.specs.Decide.{decide_passed_of}
use Rattle.queue.specs.Calls.{push_of, drain_of, release_of as queue_release_of}
use Rattle.queue.specs.Tables.{Tables, After}
use Rattle.queue.specs.declared.answers.Entered.{Entered}
use Rattle.queue.specs.declared.answers.Queued.{Queued}
use Rattle.queue.specs.declared.queue.ImpairQueue.{ImpairQueue}
use Rattle.machine.specs.Calls.{Call, arrive, release, rebind, teardown, report, Answer, refused, In, Refusal}
use Rattle.admission.specs.Admitted.{asked_of, tallied_by, torn_by, torn_of}
use Rattle.admission.specs.Follow.{copies_of, follow_of}
use Rattle.admission.specs.declared.admitted.Admitted.{Admitted}
use Rattle.device.specs.Arrive.{settled_by, arrive_refusal, arrive_of}
use Rattle.device.specs.Others.{rebound_by, rebind_of, torn_by as torn_down_by, teardown_of}
use Rattle.device.specs.Parts.{Handed}
use Rattle.device.specs.Refusals.{call_refusal}
use Rattle.device.specs.Release.{send_answer_of, accounted_of, sending_by, release_refusal, release_of}
use Rattle.device.specs.declared.arrive.Arrived.{Arrived}
use Rattle.device.specs.declared.device.Device.{Device}
use Rattle.claim.specs.Replies.{told, left_of, said_of_rebind, said_of_teardown}
use Rattle.claim.specs.Runs.{Answered, Ran, done, next, RefusedStay}
use Rattle.claim.proofs.Laws.Answers.{Said, said, said_by, said_by_arrive, said_by_release, answer_to}
use Rattle.claim.proofs.Laws.Ran.{answered_is}

-- ---- an answer that is no refusal but by 26

abbrev OnlyKeeping : {A : Type 0} → Result A Reason → Type 0
OnlyKeeping r = MatchResult r (λ x. Unit {0}) (λ e. e ≡ refusal.Keeping)

tallied_keeping : (p : Result Entered Reason) (asked : ℕ) → OnlyKeeping (tallied_by p asked)
unfolding tallied_by
tallied_keeping (Ok e) asked = tt
tallied_keeping (Err e) asked = cond_has OnlyKeeping (eqb (number_of e) refused_full) tt refl

torn_keeping : (d : Result ℕ Reason) → OnlyKeeping (torn_by d)
unfolding torn_by
torn_keeping (Ok n) = tt
torn_keeping (Err e) = refl

follow_keeping : (q : ImpairQueue) (t : Tables) (d : Decision) (now : Float) (route : ℕ) (bytes : List ℕ) → OnlyKeeping (follow_of q t d now route bytes).gives.1
unfolding follow_of copies_of torn_of
follow_keeping q t DropRandom now route bytes = tt
follow_keeping q t DropGe now route bytes = tt
follow_keeping q t DropMtu now route bytes = tt
follow_keeping q t DropBlackout now route bytes = tt
follow_keeping q t DropKillHold now route bytes = tt
follow_keeping q t (Enqueue due duplicated) now route bytes = tallied_keeping (push_of q t due now route 0 duplicated bytes).gives.1 (asked_of duplicated)
follow_keeping q t KillRst now route bytes = torn_keeping (drain_of q).1

settled_keeping : (r : Result Admitted Reason) (v : Device) (d : Decision) → OnlyKeeping r → OnlyKeeping (settled_by r v d).1
unfolding settled_by
settled_keeping (Ok a) v d h = tt
settled_keeping (Err e) v d h = h

send_keeping : (o : Result (Unit {0}) Reason) (c : Queued) → OnlyKeeping (send_answer_of o c)
unfolding send_answer_of
send_keeping (Ok u) c = tt
send_keeping (Err e) c = refl

sent_keeping : (a : Result (Option Queued) Reason) (v : Device) (now : Float) → OnlyKeeping (sending_by a v now).1
unfolding sending_by accounted_of
sent_keeping (Ok (Some c)) v now =
    cond_has (λ (h : Handed (Option Queued)). OnlyKeeping h.1) (leb c.length v.queue.width) (send_keeping (on_send_of v.accounts c.length (sub binary64 now c.arrival_ms)).1 c) refl
sent_keeping (Ok None) v now = tt
sent_keeping (Err e) v now = refl

rebound_keeping : (a : Result Bool Reason) (v : Device) → OnlyKeeping (rebound_by a v).1
unfolding rebound_by
rebound_keeping (Ok b) v = tt
rebound_keeping (Err e) v = refl

torn_down_keeping : (a : Result ℕ Reason) (v : Device) (q : ImpairQueue) → OnlyKeeping (torn_down_by a v q).1
unfolding torn_down_by
torn_down_keeping (Ok n) v q = tt
torn_down_keeping (Err e) v q = refl

-- such an answer says no other number, where what is not refused says none
told_keeping : {A : Type 0} (says : A → Answer) → ((x : A) (k : ℕ) → says x ≢ refused k) → (r : Result A Reason) → OnlyKeeping r → (k : ℕ) → told says r ≡ refused k → k ≡ refused_keeping
told_keeping says grants (Ok x) h k e = absurd (grants x k e)
told_keeping says grants (Err r) h k e = let same : number_of r ≡ k = cc in sym same ∙ ap number_of h

left_grants : (width : ℕ) (store : List ℕ) (x : Option Queued) (k : ℕ) → left_of width store x ≢ refused k
left_grants width store (Some c) k e = cc
left_grants width store None k e = cc

-- ---- each call, by its definition

module _ (v : Device) (t : Tables) where
  -- where a call was refused by any number but 26, it left what it began with
  abbrev pub Stays : Said → Type 0
  Stays o = (k : ℕ) → o.reply ≡ refused k → k ≢ refused_keeping → o ≡ said (refused k) v t

  -- nothing was done
  at_once : (a : Answer) → Stays (said a v t)
  at_once a k e other = ap (λ (x : Answer). said x v t) e

  late : {A : Type 0} (says : A → Answer) → ((x : A) (k : ℕ) → says x ≢ refused k) → (u : Tables) (h : Handed A) → OnlyKeeping h.1 → Stays (said_by (told says) u h)
  late says grants u h keeping k e other = absurd (other (told_keeping says grants h.1 keeping k e))

  pub call_stays : (c : Call) → Stays (answer_to v t c)
  unfolding answer_to arrive_of release_of rebind_of teardown_of
  call_stays (arrive now bytes route) =
      let d = decide_passed_of v.engine now (length bytes) in
      let f = follow_of v.queue t d.1 now route bytes in
      unless_has (λ (o : After (Handed Arrived)). Stays (said_by_arrive o)) (arrive_refusal v t now (length bytes))
      (late _ (λ x k e. cc) f.memory _ (settled_keeping f.gives.1 _ d.1 (follow_keeping v.queue t d.1 now route bytes)))
      (λ e. at_once _)
  call_stays (release now) =
      let l = queue_release_of v.queue t now in
      unless_has (λ (o : After (Handed (Option Queued))). Stays (said_by_release o)) (release_refusal v t now)
      (late _ (left_grants _ l.memory.store) l.memory _ (sent_keeping l.gives.1 _ now))
      (λ e. at_once _)
  call_stays (rebind now) =
      unless_has (λ (o : Handed Bool). Stays (said_by said_of_rebind t o)) (call_refusal v true (is_instant_of now) true)
      (late _ (λ x k e. cc) t _ (rebound_keeping (should_rebind_now_of v.engine now).1 _))
      (λ e. at_once _)
  call_stays teardown =
      unless_has (λ (o : Handed ℕ). Stays (said_by said_of_teardown t o)) (call_refusal v true true true)
      (late _ (λ x k e. cc) t _ (torn_down_keeping (drain_of v.queue).1 v (drain_of v.queue).0))
      (λ e. at_once _)
  call_stays report = at_once _

-- ---- each call, by its contract, and a run

pub answered_stays : {v v' : Device} {t t' : Tables} {c : Call} {k : ℕ} → Answered v t c (refused k) v' t' → k ≢ refused_keeping → (v' ≡ v) × (t' ≡ t)
answered_stays {v = v} {t = t} {c = c} {k = k} x other =
    let same = answered_is x ∙ call_stays v t c k (ap (λ (o : Said). o.reply) (sym (answered_is x))) other in
    (ap (λ (o : Said). o.device) same, ap (λ (o : Said). o.tables) same)

other_than_keeping : (k : ℕ) → Refusal k → k ≢ refused_keeping
other_than_keeping k r e = ⊎_elim (λ a. omega arith) (λ r. ⊎_elim (λ b. omega arith) (λ c. omega arith) r) r

-- a run whose refusals are by 21, 22 and 25
pub ran_stays : {v : Device} {t : Tables} {cs : List Call} {rs : List Answer} (ran : Ran v t cs rs) → ((k : ℕ) → In (refused k) rs → Refusal k) → RefusedStay ran
ran_stays done h = tt
ran_stays (next {v} {v'} {t} {t'} {c} {a} {cs} {rs} x ran) h = (
  (λ (k : ℕ) (e : a ≡ refused k). answered_stays (subst (λ (b : Answer). Answered v t c b v' t') e x) (other_than_keeping k (h k (inl (sym e))))),
  ran_stays ran (λ (k : ℕ) (i : In (refused k) rs). h k (inr i)),
)
