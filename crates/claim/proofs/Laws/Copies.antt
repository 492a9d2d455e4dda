-- The copies of a packet enter the queue, or are counted as overflow, where they do in the machine.
use Rattle.std.specs.Prelude.{◌≡◌, Bool, not, ◌&&◌, List, ℕ, ◌+◌, ◌-◌, ◌<◌, ◌≤◌, ltb, Float, length, Result, Ok, Err}
use Rattle.std.proofs.Math.Path.{refl, ap, subst}
use Rattle.std.proofs.Common.{sym, ◌∙◌, ⊎_elim, arith, le-leb, length-append}
use Rattle.std.proofs.Math.Bool.{true, false, cond}
use Rattle.std.specs.Float.Ieee.{is_nan}
use Rattle.std.proofs.lemmas.Bool.{lt-ltb, le-ltb, eqb-true, eqb-false}
use Rattle.numbers.specs.Checks.{first_failing}
use Rattle.numbers.specs.Instant.{is_instant_of}
use Rattle.numbers.specs.Laws.NotNan.{cond_has}
use Rattle.numbers.specs.Limits.{is_counter_of}
use Rattle.numbers.specs.Refusals.{number_of, refused_full}
use Rattle.numbers.specs.declared.refusal.Refusal.{Refusal}
use Rattle.engine.specs.Changes.{overflowed_of}
use Rattle.engine.specs.declared.engine.ArrivalEngine.{ArrivalEngine}
use Rattle.engine.specs.Laws.Sound.{SoundEngine, overflowed_sound}
use Rattle.held.specs.Copies.{Copy, copy, Mem}
use Rattle.held.specs.Laws.Least.{mem_last}
use Rattle.queue.specs.Calls.{Handed, push_of}
use Rattle.queue.specs.Tables.{Tables, After}
use Rattle.queue.specs.declared.answers.Entered.{Entered}
use Rattle.queue.specs.declared.queue.ImpairQueue.{ImpairQueue}
use Rattle.queue_laws.specs.Held.{Reply, step_to as queue_step_to, entered, refused, unless_refused, is_full, second_plain, push_plain}
use Rattle.queue_laws.proofs.Agree.{Agree, push_agrees, held_within}
use Rattle.queue_laws.specs.Laws.Keeps.{Keeps}
use Rattle.queue_laws.specs.Replies.{said_of_push, said_by_push}
use Rattle.machine.specs.Machine.{Machine}
use Rattle.machine.specs.Steps.{Entry, entry, with_engine, with_copy, enter_copy, enter_copies}
use Rattle.admission.specs.Admitted.{with_copies, asked_of, tallied_by}
use Rattle.admission.specs.Follow.{copies_of}
use Rattle.admission.specs.declared.admitted.Admitted.{Admitted}
use Rattle.claim.proofs.Laws.Matches.{AllShort}
use Rattle.claim.proofs.Laws.Agree.{queue_of}
use Rattle.claim.proofs.Laws.Counts.{overflows_none, overflows_more}

-- the machine m on the way: what the copies that entered or overflowed so far leave of it
pub record Taking (m : Machine) (n : Entry) : Type 0 where
  pub engine : overflowed_of m.engine n.overflowed ≡ n.then.engine
  pub same_accounts : n.then.accounts ≡ m.accounts
  pub same_torn : n.then.torn ≡ m.torn
  pub same_width : n.then.width ≡ m.width
  pub sound : SoundEngine n.then.engine
  pub short : AllShort n.then

-- what was admitted, and the machine m with the copies that entered
pub record Entering (m : Machine) (f : After (Handed Admitted)) (n : Entry) : Type 0 where
  pub admits : f.gives.1 ≡ Ok (with_copies n.entered n.overflowed)
  pub queue : Keeps f.memory f.gives.0 (queue_of n.then)
  pub taking : Taking m n

-- ---- what a push said, counted

some_counted : (a : Result Entered Refusal) (seq copies asked : ℕ) → said_of_push a ≡ entered seq copies → tallied_by a asked ≡ Ok (with_copies copies (asked - copies))
unfolding tallied_by
some_counted (Ok e) seq copies asked says = let same : e.copies ≡ copies = cc in ap (λ (n : ℕ). Ok (with_copies n (asked - n))) same
some_counted (Err e) seq copies asked says = cc

none_counted : (a : Result Entered Refusal) (asked : ℕ) → said_of_push a ≡ refused refused_full → tallied_by a asked ≡ Ok (with_copies 0 asked)
unfolding tallied_by
none_counted (Ok e) asked says = cc
none_counted (Err e) asked says = let same : number_of e ≡ refused_full = cc in rw same

-- ---- the machine's copies, one by one

module _ (due now : Float) (route : ℕ) (bytes : List ℕ) (id : ℕ) (n : Entry) where
  copy_in : length n.then.held < n.then.cap → enter_copy due now route bytes id n ≡ entry (with_copy n.then due now route id bytes) (n.entered + 1) n.overflowed
  unfolding enter_copy
  copy_in h = rw (lt-ltb (length n.then.held) n.then.cap h)

  copy_out : length n.then.held ≡ n.then.cap → enter_copy due now route bytes id n ≡ entry (with_engine n.then (overflowed_of n.then.engine 1)) n.entered (n.overflowed + 1)
  unfolding enter_copy
  copy_out h = rw (le-ltb (length n.then.held) n.then.cap (omega (arith, h)))

  copy_taken : (m : Machine) → length bytes ≤ m.width → Taking m n → Taking m (enter_copy due now route bytes id n)
  unfolding enter_copy
  copy_taken m within h =
      cond_has (Taking m) (ltb (length n.then.held) n.then.cap)
      (record {
        engine = h.engine;
        same_accounts = h.same_accounts;
        same_torn = h.same_torn;
        same_width = h.same_width;
        sound = h.sound;
        short = λ c k. ⊎_elim (λ (l : Mem c n.then.held). h.short c l) (λ (e : c ≡ copy due n.then.next_seq now route id (length bytes) bytes). omega (arith, ap (λ (x : Copy). x.length) e, within, h.same_width)) (mem_last n.then.held _ c k);
      })
      (record {
        engine = overflows_more m.engine n.overflowed ∙ ap (λ (e : ArrivalEngine). overflowed_of e 1) h.engine;
        same_accounts = h.same_accounts;
        same_torn = h.same_torn;
        same_width = h.same_width;
        sound = overflowed_sound n.then.engine 1 h.sound;
        short = h.short;
      })

-- ---- both copies

-- a packet that meets no refusal, with slots of that width
pub record Pushable (width : ℕ) (due now : Float) (bytes : List ℕ) : Type 0 where
  pub instant : is_instant_of now ≡ true
  pub short : length bytes ≤ width
  pub number : is_nan due ≡ false

module _ (m : Machine) (q : ImpairQueue) (t : Tables) (keeps : Keeps t q (queue_of m)) (sound : SoundEngine m.engine) (short : AllShort m) where
  module _ (due now : Float) (route : ℕ) (bytes : List ℕ) (p : Pushable m.width due now bytes) (next : is_counter_of m.next_seq ≡ true) where
    -- the machine with the first copy
    abbrev one : Machine
    one = with_copy m due now route 0 bytes

    abbrev both : Bool → Entry
    both duplicated = enter_copies m due duplicated now bytes route

    both_taken : (duplicated : Bool) → Taking m (both duplicated)
    unfolding enter_copies
    both_taken duplicated =
        let none : Taking m (entry m 0 0) = record { engine = overflows_none m.engine; same_accounts = refl; same_torn = refl; same_width = refl; sound = sound; short = short } in
        let first = copy_taken due now route bytes 0 (entry m 0 0) m p.short none in
        cond_has (Taking m) duplicated (copy_taken due now route bytes 1 _ m p.short first) first

    abbrev pushed : Bool → After (Handed Entered)
    pushed duplicated = push_of q t due now route 0 duplicated bytes

    passes : (duplicated : Bool) → push_plain (queue_of m) due now route 0 duplicated bytes
        ≡ cond (is_full (queue_of m)) (queue_step_to (refused refused_full) (queue_of m)) (second_plain m.next_seq (queue_of one) due now route duplicated bytes)
    unfolding push_plain first_failing
    passes duplicated = rw (p.instant, le-leb (length bytes) m.width p.short, p.number, next) (by_room (is_full (queue_of m)))
      where
        by_room : (full : Bool) → unless_refused (queue_of m) (cond (not full) 0 refused_full) (second_plain m.next_seq (queue_of one) due now route duplicated bytes)
            ≡ cond full (queue_step_to (refused refused_full) (queue_of m)) (second_plain m.next_seq (queue_of one) due now route duplicated bytes)
        by_room true = refl
        by_room false = refl

    agrees : (duplicated : Bool) → Agree (said_by_push (pushed duplicated))
        (cond (is_full (queue_of m)) (queue_step_to (refused refused_full) (queue_of m)) (second_plain m.next_seq (queue_of one) due now route duplicated bytes))
    agrees duplicated = subst (Agree (said_by_push (pushed duplicated))) (passes duplicated) (push_agrees t q (queue_of m) keeps due now route 0 duplicated bytes)

    -- the copies are counted alike where the push said this, and the machine has these copies
    by_answer : (duplicated : Bool) (r : Reply) (then : Machine) (i o : ℕ)
        → ((a : Result Entered Refusal) → said_of_push a ≡ r → tallied_by a (asked_of duplicated) ≡ Ok (with_copies i o))
        → both duplicated ≡ entry then i o
        → Agree (said_by_push (pushed duplicated)) (queue_step_to r (queue_of then))
        → Entering m (copies_of q t duplicated due now route bytes) (both duplicated)
    unfolding copies_of
    by_answer duplicated r then i o counted e a =
        subst (Entering m (copies_of q t duplicated due now route bytes)) (sym e)
        (record { admits = counted (pushed duplicated).gives.1 a.says; queue = a.keeps; taking = subst (Taking m) e (both_taken duplicated) })

    -- one copy, or two
    single : both false ≡ enter_copy due now route bytes 0 (entry m 0 0)
    unfolding enter_copies
    single = refl

    double : both true ≡ enter_copy due now route bytes 1 (enter_copy due now route bytes 0 (entry m 0 0))
    unfolding enter_copies
    double = refl

    follows : (duplicated b : Bool) → (duplicated && not (is_full (queue_of one))) ≡ b → second_plain m.next_seq (queue_of one) due now route duplicated bytes
        ≡ cond b (queue_step_to (entered m.next_seq 2) (queue_of (with_copy one due now route 1 bytes))) (queue_step_to (entered m.next_seq 1) (queue_of one))
    unfolding second_plain
    follows duplicated b e = rw e

    room : is_full (queue_of m) ≡ false → length m.held < m.cap
    room e = omega (arith, eqb-false (length m.held) m.cap e, held_within t q (queue_of m) keeps)

    room_again : is_full (queue_of m) ≡ false → is_full (queue_of one) ≡ false → length one.held < m.cap
    room_again e1 e2 =
        let more : length one.held ≡ length m.held + 1 = rw length-append in
        omega (arith, room e1, eqb-false (length one.held) m.cap e2, more)

    pub copies_enter : (duplicated : Bool) → Entering m (copies_of q t duplicated due now route bytes) (both duplicated)
    copies_enter duplicated = go duplicated (is_full (queue_of m)) refl (is_full (queue_of one)) refl (agrees duplicated)
      where
        go : (duplicated a : Bool) → is_full (queue_of m) ≡ a → (b : Bool) → is_full (queue_of one) ≡ b
            → Agree (said_by_push (pushed duplicated)) (cond a (queue_step_to (refused refused_full) (queue_of m)) (second_plain m.next_seq (queue_of one) due now route duplicated bytes))
            → Entering m (copies_of q t duplicated due now route bytes) (both duplicated)
        go false true ea b eb agree =
            by_answer false (refused refused_full) (with_engine m (overflowed_of m.engine 1)) 0 1 (λ a says. none_counted a 1 says)
            (single ∙ copy_out due now route bytes 0 (entry m 0 0) (eqb-true (length m.held) m.cap ea)) agree
        go true true ea b eb agree =
            let full = eqb-true (length m.held) m.cap ea in
            by_answer true (refused refused_full) (with_engine m (overflowed_of (overflowed_of m.engine 1) 1)) 0 2 (λ a says. none_counted a 2 says)
            (double ∙ ap (enter_copy due now route bytes 1) (copy_out due now route bytes 0 (entry m 0 0) full) ∙ copy_out due now route bytes 1 (entry (with_engine m (overflowed_of m.engine 1)) 0 1) full) agree
        go false false ea b eb agree =
            by_answer false (entered m.next_seq 1) one 1 0 (λ a says. some_counted a m.next_seq 1 1 says)
            (single ∙ copy_in due now route bytes 0 (entry m 0 0) (room ea)) (subst (Agree (said_by_push (pushed false))) (follows false false refl) agree)
        go true false ea true eb agree =
            by_answer true (entered m.next_seq 1) (with_engine one (overflowed_of m.engine 1)) 1 1 (λ a says. some_counted a m.next_seq 1 2 says)
            (double ∙ ap (enter_copy due now route bytes 1) (copy_in due now route bytes 0 (entry m 0 0) (room ea)) ∙ copy_out due now route bytes 1 (entry one 1 0) (eqb-true (length one.held) m.cap eb))
            (subst (Agree (said_by_push (pushed true))) (follows true false (ap not eb)) agree)
        go true false ea false eb agree =
            by_answer true (entered m.next_seq 2) (with_copy one due now route 1 bytes) 2 0 (λ a says. some_counted a m.next_seq 2 2 says)
            (double ∙ ap (enter_copy due now route bytes 1) (copy_in due now route bytes 0 (entry m 0 0) (room ea)) ∙ copy_in due now route bytes 1 (entry one 1 0) (room_again ea eb))
            (subst (Agree (said_by_push (pushed true))) (follows true true (ap not eb)) agree)
