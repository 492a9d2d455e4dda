-- Which refusals meet a queue that keeps a plain queue: neither 23 nor 26, and 28 exactly where as many copies are held as the capacity.
use Rattle.std.specs.Prelude.{◌≡◌, ◌≢◌, List, [], ◌∷◌, Bool, true, false, ◌&&◌, ℕ, ◌≤◌, eqb, Float, length}
use Rattle.std.proofs.Common.{sym, ◌∙◌, arith}
use Rattle.std.proofs.Math.Bool.{not}
use Rattle.std.specs.Float.Ieee.{is_nan}
use borrow.Author.Tests.{eq-eqb, eqb-true, le-leb, not-false}
use Rattle.numbers.specs.Checks.{Check, first_failing}
use Rattle.numbers.specs.Instant.{is_instant_of}
use Rattle.numbers.specs.Laws.Checks.{AllFailing, first_has}
use Rattle.numbers.specs.Laws.NotNan.{cond_has}
use Rattle.numbers.specs.Limits.{is_counter_of}
use Rattle.numbers.specs.Refusals.{refused_instant, refused_length, refused_memory, refused_counter, refused_keeping, refused_due, refused_full}
use Rattle.held.specs.Copies.{Copy, Leaving, no_copy, one_copy, leaving}
use Rattle.queue.specs.Tables.{Tables}
use Rattle.queue.specs.Calls.{push_of}
use Rattle.queue.specs.declared.queue.ImpairQueue.{ImpairQueue}
use Rattle.queue_laws.specs.Held.{Plain, Step, step_to, Call, push, release, drain, next_due, len, is_empty, has_memory, entered, released, none_due, drained, holds, tells, refused, unless_refused, is_full, with_copy, second_plain, push_checks, push_plain, hand_out, release_checks, release_plain, state_checks, drain_plain, least_due, next_due_plain, step}
use Rattle.queue_laws.specs.Replies.{answer_to, said_by_push}
use Rattle.queue_laws.specs.Laws.Keeps.{Keeps}
use Rattle.queue_laws.proofs.Agree.{push_agrees}
use Rattle.queue_laws.proofs.Runs.{call_agrees}

-- a refusal that is neither 23 nor 26
abbrev pub Neither : ℕ → Type 0
Neither n = (n ≢ refused_memory) × (n ≢ refused_keeping)

-- a step whose refusals are so
abbrev Clear : Step → Type 0
Clear s = (n : ℕ) → s.reply ≡ refused n → Neither n

clear_refused : (m : ℕ) (p : Plain) → Neither m → Clear (step_to (refused m) p)
clear_refused m p h n e = let z : m ≡ n = cc in ((λ (a : n ≡ refused_memory). h.0 (z ∙ a)), (λ (a : n ≡ refused_keeping). h.1 (z ∙ a)))

-- a step behind tests none of whose numbers is 23 or 26
clear_unless : (p : Plain) (cs : List Check) (s : Step) → AllFailing Neither cs → Clear s → Clear (unless_refused p (first_failing cs) s)
clear_unless p cs s h taken = cond_has Clear (eqb (first_failing cs) 0) taken (clear_refused (first_failing cs) p (first_has Neither cs ((λ z. omega arith), λ z. omega arith) h))

-- 25 alone
clear_state : (p : Plain) (s : Step) → Clear s → Clear (unless_refused p (first_failing (state_checks p)) s)
clear_state p s taken = clear_unless p (state_checks p) s ((λ f. ((λ z. omega arith), λ z. omega arith)), tt) taken

clear_none : (p : Plain) → Clear (step_to none_due p)
clear_none p n e = let z : ◌≡◌ {A = ℕ} 0 1 = cc in absurd (omega arith)

clear_entered : (seq copies : ℕ) (p : Plain) → Clear (step_to (entered seq copies) p)
clear_entered seq copies p n e = let z : ◌≡◌ {A = ℕ} 0 1 = cc in absurd (omega arith)

push_clear : (p : Plain) (due arrival : Float) (route id : ℕ) (duplicated : Bool) (bytes : List ℕ) → Clear (push_plain p due arrival route id duplicated bytes)
unfolding push_plain second_plain
push_clear p due arrival route id duplicated bytes =
    clear_unless p (push_checks p due arrival (length bytes)) _
    ((λ f. ((λ z. omega arith), λ z. omega arith)), ((λ f. ((λ z. omega arith), λ z. omega arith)), ((λ f. ((λ z. omega arith), λ z. omega arith)), ((λ f. ((λ z. omega arith), λ z. omega arith)), ((λ f. ((λ z. omega arith), λ z. omega arith)), tt)))))
    (cond_has Clear (duplicated && not (is_full (with_copy p due arrival route id bytes))) (clear_entered p.next_seq 2 (with_copy (with_copy p due arrival route id bytes) due arrival route 1 bytes)) (clear_entered p.next_seq 1 (with_copy p due arrival route id bytes)))

hand_clear : (p : Plain) (x : Leaving) → Clear (hand_out p x)
unfolding hand_out
hand_clear p no_copy = clear_none p
hand_clear p (one_copy c) = λ (n : ℕ) (e : released c ≡ refused n). let z : ◌≡◌ {A = ℕ} 0 1 = cc in absurd (omega arith)

release_clear : (p : Plain) (now : Float) → Clear (release_plain p now)
unfolding release_plain
release_clear p now =
    clear_unless p (release_checks p now) _ ((λ f. ((λ z. omega arith), λ z. omega arith)), ((λ f. ((λ z. omega arith), λ z. omega arith)), tt)) (hand_clear p (leaving now p.held))

drain_clear : (p : Plain) → Clear (drain_plain p)
unfolding drain_plain
drain_clear p = clear_state p _ (λ (n : ℕ) (e : drained (length p.held) ≡ refused n). let z : ◌≡◌ {A = ℕ} 0 1 = cc in absurd (omega arith))

clear_least : (l : List Copy) (p : Plain) → Clear (step_to (least_due l) p)
unfolding least_due
clear_least [] p n e = let z : ◌≡◌ {A = ℕ} 0 1 = cc in absurd (omega arith)
clear_least (c ∷ l) p n e = let z : ◌≡◌ {A = ℕ} 0 1 = cc in absurd (omega arith)

due_clear : (p : Plain) → Clear (next_due_plain p)
unfolding next_due_plain
due_clear p = clear_state p _ (clear_least p.held p)

step_clear : (p : Plain) (c : Call) → Clear (step p c)
unfolding step
step_clear p (push due arrival route id duplicated bytes) = push_clear p due arrival route id duplicated bytes
step_clear p (release now) = release_clear p now
step_clear p drain = drain_clear p
step_clear p next_due = due_clear p
step_clear p len = λ (n : ℕ) (e : holds (length p.held) ≡ refused n). let z : ◌≡◌ {A = ℕ} 0 1 = cc in absurd (omega arith)
step_clear p is_empty = λ (n : ℕ) (e : tells (eqb (length p.held) 0) ≡ refused n). let z : ◌≡◌ {A = ℕ} 0 1 = cc in absurd (omega arith)
step_clear p has_memory = λ (n : ℕ) (e : tells true ≡ refused n). let z : ◌≡◌ {A = ℕ} 0 1 = cc in absurd (omega arith)

-- no call is refused with 23 or 26
pub neither_refused : (t : Tables) (q : ImpairQueue) (p : Plain) → Keeps t q p → (c : Call) (n : ℕ) → (answer_to q t c).reply ≡ refused n → Neither n
neither_refused t q p k c n e = step_clear p c n (sym (call_agrees t q p k c).says ∙ e)

-- 28 comes only where as many copies are held as the capacity
module _ (t : Tables) (q : ImpairQueue) (p : Plain) (k : Keeps t q p) (due arrival : Float) (route id : ℕ) (duplicated : Bool) (bytes : List ℕ) where
  abbrev Full : Step → Type 0
  Full s = s.reply ≡ refused refused_full → length p.held ≡ p.cap

  other_number : (m : ℕ) → m ≢ refused_full → Full (step_to (refused m) p)
  other_number m h e = let z : m ≡ refused_full = cc in absurd (h z)

  none_refused : (copies : ℕ) (r : Plain) → Full (step_to (entered p.next_seq copies) r)
  none_refused copies r e = let z : ◌≡◌ {A = ℕ} 0 1 = cc in absurd (omega arith)

  plain_full : Full (push_plain p due arrival route id duplicated bytes)
  unfolding push_plain second_plain
  plain_full =
      cond_has Full (eqb (first_failing (push_checks p due arrival (length bytes))) 0)
      (cond_has Full (duplicated && not (is_full (with_copy p due arrival route id bytes))) (none_refused 2 (with_copy (with_copy p due arrival route id bytes) due arrival route 1 bytes)) (none_refused 1 (with_copy p due arrival route id bytes)))
      (first_has (λ (n : ℕ). Full (step_to (refused n) p)) (push_checks p due arrival (length bytes)) (other_number 0 (λ z. omega arith)) (
        (λ f. other_number refused_instant (λ z. omega arith)),
        (
          (λ f. other_number refused_length (λ z. omega arith)),
          (
            (λ f. other_number refused_due (λ z. omega arith)),
            (
              (λ f. other_number refused_counter (λ z. omega arith)),
              (
                (λ f e. eqb-true (length p.held) p.cap (not-false (is_full p) f)),
                tt,
              ),
            ),
          ),
        ),
      ))

  pub full_only : (said_by_push (push_of q t due arrival route id duplicated bytes)).reply ≡ refused refused_full → length p.held ≡ p.cap
  full_only e = plain_full (sym (push_agrees t q p k due arrival route id duplicated bytes).says ∙ e)

  -- and there it comes, for a packet that meets no other refusal
  plain_refused : is_instant_of arrival ≡ true → length bytes ≤ p.width → is_nan due ≡ false → is_counter_of p.next_seq ≡ true → length p.held ≡ p.cap
      → (push_plain p due arrival route id duplicated bytes).reply ≡ refused refused_full
  unfolding push_plain first_failing
  plain_refused a b c d e = rw (a, le-leb (length bytes) p.width b, c, d, eq-eqb (length p.held) p.cap e)

  pub full_refused : is_instant_of arrival ≡ true → length bytes ≤ p.width → is_nan due ≡ false → is_counter_of p.next_seq ≡ true → length p.held ≡ p.cap
      → (said_by_push (push_of q t due arrival route id duplicated bytes)).reply ≡ refused refused_full
  full_refused a b c d e = (push_agrees t q p k due arrival route id duplicated bytes).says ∙ plain_refused a b c d e
