-- A release answers as the machine's does: where a copy leaves, it is accounted, since it is no longer than a slot, which the accounts let through, and 25 let
-- the counters through.
use Rattle.std.proofs.Math.Path.{◌≡◌, subst}
use Rattle.std.specs.Prelude.{refl, ℕ, ◌≤◌, Float, Option, None, Some, Result, Ok, Err}
use Rattle.std.proofs.Common.{sym, arith, le_trans, le-leb}
use Rattle.std.proofs.Math.Bool.{true}
use Rattle.std.specs.Float.{binary64}
use Rattle.std.specs.Float.Ieee.{sub}
use Rattle.numbers.specs.Checks.{first_failing}
use Rattle.numbers.specs.Instant.{is_instant_of}
use Rattle.numbers.specs.Limits.{max_length, is_length_of, is_counter_of}
use Rattle.numbers.specs.declared.refusal.Refusal.{Refusal}
use Rattle.accounts.specs.Accountant.{sent_of}
use Rattle.accounts.specs.Calls.{on_send_of}
use Rattle.accounts.specs.Counters.{are_counters, accountant_counters}
use Rattle.accounts.specs.Laws.Calls.{send_done}
use Rattle.accounts.specs.declared.accountant.SendAccountant.{SendAccountant}
use Rattle.held.specs.Copies.{Copy, without, Leaving, no_copy, one_copy, leaving}
use Rattle.held.proofs.Due.{leaving_mem}
use Rattle.held.specs.Laws.Least.{mem_without}
use Rattle.queue.specs.Calls.{release_of as queue_release_of}
use Rattle.queue.specs.Refusals.{memory_of}
use Rattle.queue.specs.Tables.{Tables, After, after}
use Rattle.queue.specs.declared.answers.Queued.{Queued}
use Rattle.queue.specs.declared.queue.ImpairQueue.{ImpairQueue}
use Rattle.queue_laws.specs.Held.{Plain, plain, Step as QueueStep, released as queue_released, none_due as queue_none_due, hand_out as queue_hand_out, release_plain}
use Rattle.queue_laws.proofs.Agree.{Agree, release_agrees}
use Rattle.queue_laws.specs.Laws.Creation.{long_memory}
use Rattle.queue_laws.specs.Laws.Keeps.{Keeps}
use Rattle.queue_laws.specs.Replies.{copy_of, said_of_release as queue_says, said_by_release as queue_said}
use Rattle.engine.specs.Laws.Sound.{SoundEngine}
use Rattle.machine.specs.Calls.{release, released, none_due}
use Rattle.machine.specs.Machine.{Machine}
use Rattle.machine.specs.Steps.{step_to, leave, hand_out, release_step, step}
use Rattle.device.specs.Parts.{Handed}
use Rattle.device.specs.Release.{not_released, send_answer_of, accounted_of, sending_by, sent_in, release_of}
use Rattle.device.specs.declared.device.Device.{Device}
use Rattle.claim.proofs.Laws.Answers.{said_by_release}
use Rattle.claim.proofs.Laws.Matches.{Matches, AllShort}
use Rattle.claim.proofs.Laws.Agree.{Agrees, queue_of, device_of, of_device, parts_match, narrow, Passed, by_refusal}

-- ---- the copy that left is accounted

sent_done : (a : SendAccountant) (n : ℕ) (x : Float) → n ≤ max_length → are_counters (accountant_counters a) ≡ true → on_send_of a n x ≡ (sent_of a n x, Ok tt)
unfolding is_length_of
sent_done a n x short counted = send_done a n x (le-leb n max_length short) counted

module _ (m : Machine) (sound : SoundEngine m.engine) (short : AllShort m) (now : Float) where
  -- nothing is due
  none_left : (a : Result (Option Queued) Refusal) (q : ImpairQueue) (t : Tables) → queue_says q.width t.store a ≡ queue_none_due → Keeps t q (queue_of m)
      → Agrees (said_by_release (after (sending_by a (device_of m q) now) t)) (step_to none_due m)
  unfolding sending_by
  none_left (Ok (Some c)) q t says keeps = cc
  none_left (Ok None) q t says keeps = record { says = refl; matches = parts_match m q t keeps sound short }
  none_left (Err e) q t says keeps = cc

  module _ (counted : are_counters (accountant_counters m.accounts) ≡ true) where
    -- what the queue hands out, the device hands out and accounts
    handed_out : (x : Queued) (q : ImpairQueue) (t : Tables) → x.length ≤ m.width → Keeps t q (plain m.cap m.width (without x.seq m.held) m.next_seq)
        → Agrees (said_by_release (after (accounted_of (device_of m q) x now) t)) (step_to (released (copy_of q.width t.store x)) (leave m now (copy_of q.width t.store x)))
    unfolding accounted_of send_answer_of
    handed_out x q t within keeps =
        rw (sent_done m.accounts x.length (sub binary64 now x.arrival_ms) (le_trans within (narrow t q (plain m.cap m.width (without x.seq m.held) m.next_seq) keeps)) counted)
        (record { says = refl; matches = parts_match (leave m now (copy_of q.width t.store x)) q t keeps sound (λ c k. short c (mem_without x.seq m.held c k)) })

    one_left : (c : Copy) → c.length ≤ m.width → (a : Result (Option Queued) Refusal) (q : ImpairQueue) (t : Tables) → queue_says q.width t.store a ≡ queue_released c
        → Keeps t q (plain m.cap m.width (without c.seq m.held) m.next_seq)
        → Agrees (said_by_release (after (sending_by a (device_of m q) now) t)) (step_to (released c) (leave m now c))
    unfolding sending_by
    one_left c within (Ok (Some x)) q t says keeps =
        let same : copy_of q.width t.store x ≡ c = cc in
        let inside : x.length ≤ m.width = subst (λ (y : Copy). y.length ≤ m.width) (sym same) within in
        rw (le-leb x.length q.width (omega (arith, inside, keeps.same_width)))
        (subst (λ (y : Copy). Agrees (said_by_release (after (accounted_of (device_of m q) x now) t)) (step_to (released y) (leave m now y))) same
        (handed_out x q t inside (subst (λ (y : Copy). Keeps t q (plain m.cap m.width (without y.seq m.held) m.next_seq)) (sym same) keeps)))
    one_left c within (Ok None) q t says keeps = cc
    one_left c within (Err e) q t says keeps = cc

    -- the queue's step, and the machine's
    module _ (a : Result (Option Queued) Refusal) (q : ImpairQueue) (t : Tables) where
      abbrev Said : QueueStep → Type 0
      Said s = (queue_says q.width t.store a ≡ s.reply) × Keeps t q s.then

      both_hand_out : (x : Leaving) → leaving now m.held ≡ x → Said (queue_hand_out (queue_of m) x) → Agrees (said_by_release (after (sending_by a (device_of m q) now) t)) (hand_out m now x)
      unfolding queue_hand_out hand_out
      both_hand_out no_copy e h = none_left a q t h.0 h.1
      both_hand_out (one_copy c) e h = one_left c (short c (leaving_mem now m.held c e)) a q t h.0 h.1

-- the queue's release, where it is not refused
release_passed : (p : Plain) (now : Float) → is_instant_of now ≡ true → is_counter_of p.next_seq ≡ true → release_plain p now ≡ queue_hand_out p (leaving now p.held)
unfolding release_plain first_failing
release_passed p now instant next = rw (instant, next)

module _ (m : Machine) (q : ImpairQueue) (t : Tables) (now : Float) (keeps : Keeps t q (queue_of m)) (sound : SoundEngine m.engine) (short : AllShort m) where
  left : Passed m (is_instant_of now) true → Agrees (said_by_release (sent_in (device_of m q) (queue_release_of q t now) now)) (hand_out m now (leaving now m.held))
  left p =
      let o = queue_release_of q t now in
      let a = subst (Agree (queue_said o)) (release_passed (queue_of m) now p.instant_passes p.next) (release_agrees t q (queue_of m) keeps now) in
      both_hand_out m sound short now p.accounts o.gives.1 o.gives.0 o.memory (leaving now m.held) refl (a.says, a.keeps)

  from_parts : Agrees (said_by_release (release_of (device_of m q) t now)) (step m (release now))
  unfolding release_of step release_step
  from_parts =
      by_refusal (λ (o : After (Handed (Option Queued))). Agrees (said_by_release o)) m (sent_in (device_of m q) (queue_release_of q t now) now) (λ (r : Refusal). after (not_released (device_of m q) r) t) (hand_out m now (leaving now m.held))
      (λ (r : Refusal). record { says = refl; matches = parts_match m q t keeps sound short })
      q keeps.same_next (memory_of q.width q.cap t) (is_instant_of now) true (long_memory q.width q.cap t keeps.long) left

pub release_matches : (v : Device) (t : Tables) (m : Machine) → Matches v t m → (now : Float) → Agrees (said_by_release (release_of v t now)) (step m (release now))
release_matches v t m k now = of_device (λ (w : Device). Agrees (said_by_release (release_of w t now)) (step m (release now))) v t m k (from_parts m v.queue t now k.queue k.sound k.short)
