-- An arrival answers as the machine's does: the engine decides alike, and what follows is done and counted alike.
use Rattle.std.proofs.Math.Path.{◌≡◌}
use Rattle.std.specs.Prelude.{refl, Bool, true, false, ◌&&◌, List, ℕ, ◌+◌, leb, T, Float, Result, Ok, Err}
use Rattle.std.proofs.Common.{sym, ◌∙◌, add-zero, le_trans, le-leb, leb-true}
use Rattle.std.specs.Float.{binary64}
use Rattle.std.specs.Float.Ieee.{fits}
use Rattle.std.proofs.Math.ListN.{length}
use Rattle.numbers.specs.Instant.{is_instant_of}
use Rattle.numbers.specs.Laws.Bounded.{instant_bounded}
use Rattle.numbers.specs.Laws.Kinds.{plus_number, number_is}
use Rattle.numbers.specs.Limits.{max_length, is_length_of, is_counter_of}
use Rattle.numbers.specs.declared.refusal.Refusal.{Refusal}
use Rattle.steps.proofs.Sound.{DueFrom}
use Rattle.steps.specs.declared.decision.Decision.{Decision}
use Rattle.steps.specs.declared.decision.Decision.TheVariants.{DropRandom, DropGe, DropMtu, DropBlackout, DropKillHold, Enqueue, KillRst}
use Rattle.accounts.specs.Accountant.{resets_of}
use Rattle.engine.specs.Changes.{overflowed_of}
use Rattle.engine.specs.Decide.{decide_passed_of}
use Rattle.engine.specs.Laws.Sound.{SoundEngine, passed_sound}
use Rattle.engine.specs.declared.engine.ArrivalEngine.{ArrivalEngine}
use Rattle.queue.specs.Calls.{Handed as HandedQueue, drain_of}
use Rattle.queue.specs.Refusals.{memory_of}
use Rattle.queue.specs.Tables.{Tables, After, after}
use Rattle.queue.specs.declared.queue.ImpairQueue.{ImpairQueue}
use Rattle.queue_laws.specs.Held.{drained}
use Rattle.queue_laws.specs.Laws.Creation.{long_memory}
use Rattle.queue_laws.specs.Laws.Keeps.{Keeps}
use Rattle.queue_laws.specs.Replies.{said_of_drain}
use Rattle.machine.specs.Calls.{arrive, decided}
use Rattle.machine.specs.Machine.{Machine}
use Rattle.machine.specs.Steps.{step_to, Entry, with_engine, enter_copies, tear, with_accounts, follow, arrive_step, step}
use Rattle.admission.specs.Admitted.{with_copies, untouched, torn_by, torn_of}
use Rattle.admission.specs.Follow.{follow_of}
use Rattle.admission.specs.declared.admitted.Admitted.{Admitted}
use Rattle.device.specs.Arrive.{counted_of, settled_by, not_arrived, settled_in, arrive_of}
use Rattle.device.specs.Parts.{Handed}
use Rattle.device.specs.declared.arrive.Arrived.{Arrived}
use Rattle.device.specs.declared.device.Device.{Device}
use Rattle.claim.proofs.Laws.Answers.{said_by_arrive}
use Rattle.claim.proofs.Laws.Matches.{Matches, AllShort}
use Rattle.claim.proofs.Laws.Agree.{Agrees, queue_of, device_of, of_device, parts_match, narrow, Passed, by_refusal, drains_all}
use Rattle.claim.proofs.Laws.Copies.{Entering, Pushable, copies_enter}
use Rattle.claim.proofs.Laws.Counts.{overflows_none, resets_none}

-- ---- what followed the decision, counted

-- from the machine m, with what was admitted, to the machine n
record Follows (m : Machine) (f : After (HandedQueue Admitted)) (a : Admitted) (n : Machine) : Type 0 where
  admits : f.gives.1 ≡ Ok a
  engine : overflowed_of m.engine a.overflowed ≡ n.engine
  accounts : resets_of m.accounts a.resets ≡ n.accounts
  all_torn : m.torn + a.torn ≡ n.torn
  queue : Keeps f.memory f.gives.0 (queue_of n)
  sound : SoundEngine n.engine
  short : AllShort n

settled : (m : Machine) (q : ImpairQueue) (d : ArrivalEngine × Decision) (f : After (HandedQueue Admitted)) (a : Admitted) (n : Machine) → Follows (with_engine m d.0) f a n
    → Agrees (said_by_arrive (settled_in (device_of m q) d f)) (step_to (decided d.1 a.entered a.overflowed a.torn) n)
unfolding settled_by counted_of
settled m q d f a n h =
    rw h.admits (record { says = refl; matches = record { engine = h.engine; accounts = h.accounts; torn = h.all_torn; queue = h.queue; sound = h.sound; short = h.short } })

module _ (m : Machine) (q : ImpairQueue) (t : Tables) (keeps : Keeps t q (queue_of m)) (sound : SoundEngine m.engine) (short : AllShort m) where
  -- a packet that is dropped does nothing more
  dropped : Follows m (after (untouched q) t) (with_copies 0 0) m
  dropped =
      record { admits = refl; engine = overflows_none m.engine; accounts = resets_none m.accounts; all_torn = add-zero m.torn; queue = keeps; sound = sound; short = short }

  -- a reset is counted, and all held copies go to torn
  abbrev one_reset : Admitted
  one_reset = record { entered = 0; overflowed = 0; torn = length m.held; resets = 1 }

  resets : (a : Result ℕ Refusal) → said_of_drain a ≡ drained (length m.held) → torn_by a ≡ Ok one_reset
  unfolding torn_by
  resets (Ok n) says = let same : n ≡ length m.held = cc in rw same
  resets (Err e) says = cc

  reset : is_counter_of m.next_seq ≡ true → Follows m (after (torn_of q) t) one_reset (tear (with_accounts m (resets_of m.accounts 1)))
  unfolding torn_of
  reset next =
      let a = drains_all m q t keeps next in
      record { admits = resets (drain_of q).1 a.says; engine = overflows_none m.engine; accounts = refl; all_torn = refl; queue = a.keeps; sound = sound; short = λ c k. absurd k }

-- the copies of a packet enter or overflow
enqueued : (m : Machine) (f : After (HandedQueue Admitted)) (n : Entry) → Entering m f n → Follows m f (with_copies n.entered n.overflowed) n.then
enqueued m f n h =
    record {
      admits = h.admits;
      engine = h.taking.engine;
      accounts = resets_none m.accounts ∙ sym h.taking.same_accounts;
      all_torn = add-zero m.torn ∙ sym h.taking.same_torn;
      queue = h.queue;
      sound = h.taking.sound;
      short = h.taking.short;
    }

-- ---- each decision

module _ (m : Machine) (q : ImpairQueue) (t : Tables) (keeps : Keeps t q (queue_of m)) (short : AllShort m) (now : Float) (bytes : List ℕ) (route : ℕ) where
  module _ (p : Passed m (is_instant_of now) (leb (length bytes) m.width)) where
    pushable : (due : Float) (duplicated : Bool) → DueFrom now (Enqueue due duplicated) → Pushable m.width due now bytes
    pushable due duplicated from = record { instant = p.instant_passes; short = leb-true (length bytes) m.width p.length_passes; number = number_is (plus_number from.clear) }

    module _ (e : ArrivalEngine) (sound : SoundEngine e) where
      drops : (d : Decision) → Agrees (said_by_arrive (settled_in (device_of m q) (e, d) (after (untouched q) t))) (step_to (decided d 0 0 0) (with_engine m e))
      drops d = settled m q (e, d) (after (untouched q) t) (with_copies 0 0) (with_engine m e) (dropped (with_engine m e) q t keeps sound short)

      -- the machine has the engine that decided
      followed : (d : Decision) → DueFrom now d
          → Agrees (said_by_arrive (settled_in (device_of m q) (e, d) (follow_of q t d now route bytes))) (follow (with_engine m e) d now bytes route)
      unfolding follow_of follow
      followed DropRandom from = drops DropRandom
      followed DropGe from = drops DropGe
      followed DropMtu from = drops DropMtu
      followed DropBlackout from = drops DropBlackout
      followed DropKillHold from = drops DropKillHold
      followed (Enqueue due duplicated) from =
          settled m q (e, Enqueue due duplicated) _ _ _
          (enqueued (with_engine m e) _ (enter_copies (with_engine m e) due duplicated now bytes route)
          (copies_enter (with_engine m e) q t keeps sound short due now route bytes (pushable due duplicated from) p.next duplicated))
      followed KillRst from =
          settled m q (e, KillRst) (after (torn_of q) t) _ _ (reset (with_engine m e) q t keeps sound short p.next)

  -- ---- the call

  module _ (sound : SoundEngine m.engine) (fit : T (fits binary64 now)) where
    abbrev decision : ArrivalEngine × Decision
    decision = decide_passed_of m.engine now (length bytes)

    decides : Passed m (is_instant_of now) (leb (length bytes) m.width)
        → Agrees (said_by_arrive (settled_in (device_of m q) decision (follow_of q t decision.1 now route bytes))) (follow (with_engine m decision.0) decision.1 now bytes route)
    decides p =
        let still = passed_sound m.engine now (length bytes) sound (record { fit = fit; bounded = instant_bounded now p.instant_passes; short = le_trans (leb-true (length bytes) m.width p.length_passes) (narrow t q (queue_of m) keeps) }) in
        followed p decision.0 still.0 decision.1 still.1

    -- the device's test of the length is the machine's
    same_short : (leb (length bytes) q.width && is_length_of (length bytes)) ≡ leb (length bytes) m.width
    unfolding is_length_of
    same_short = rw keeps.same_width (go (leb (length bytes) m.width) refl)
      where
        go : (b : Bool) → leb (length bytes) m.width ≡ b → (b && is_length_of (length bytes)) ≡ b
        go true h = le-leb (length bytes) max_length (le_trans (leb-true (length bytes) m.width h) (narrow t q (queue_of m) keeps))
        go false h = refl

    arrive_parts : Agrees (said_by_arrive (arrive_of (device_of m q) t now bytes route)) (step m (arrive now bytes route))
    unfolding arrive_of step arrive_step
    arrive_parts =
        rw same_short (by_refusal (λ (o : After (Handed Arrived)). Agrees (said_by_arrive o)) m _ (λ (r : Refusal). after (not_arrived (device_of m q) r) t) _ (λ (r : Refusal). record { says = refl; matches = parts_match m q t keeps sound short })
        q keeps.same_next (memory_of q.width q.cap t) (is_instant_of now) (leb (length bytes) m.width) (long_memory q.width q.cap t keeps.long) decides)

pub arrive_matches : (v : Device) (t : Tables) (m : Machine) → Matches v t m → (now : Float) (bytes : List ℕ) (route : ℕ) → T (fits binary64 now)
    → Agrees (said_by_arrive (arrive_of v t now bytes route)) (step m (arrive now bytes route))
arrive_matches v t m k now bytes route fit =
    of_device (λ (w : Device). Agrees (said_by_arrive (arrive_of w t now bytes route)) (step m (arrive now bytes route))) v t m k
    (arrive_parts m v.queue t k.queue k.short now bytes route k.sound fit)
