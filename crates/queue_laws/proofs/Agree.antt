-- Each call of crates/queue, on tables and a state that keep a plain queue, says what the plain queue says, and what it leaves keeps what the plain queue
-- is then. A layer above the queue cites these laws and not the structure behind them.
use Rattle.std.specs.Prelude.{◌≡◌, Bool, cond, ◌&&◌, ℕ, ◌+◌, ◌<◌, ◌≤◌, leb, eqb, Float, get_or, Option, None, Result, Ok, Err}
use Rattle.std.proofs.Math.Path.{refl, ap}
use Rattle.std.proofs.Common.{sym, ◌∙◌, subst, arith}
use mathlib.Core.List.{List, [], ◌∷◌}
use Rattle.std.proofs.Math.Bool.{true, false, not}
use Rattle.std.specs.Float.Ieee.{le, is_nan}
use Rattle.std.proofs.Math.ListN.{length}
use borrow.Author.Tests.{le-leb, lt-leb, eq-eqb, ne_eqb, leb-true, eqb-false, not-true}
use Rattle.numbers.specs.Checks.{first_failing, unless, number_if}
use Rattle.numbers.specs.Refusals.{number_of}
use Rattle.numbers.specs.declared.refusal.Refusal.{Refusal}
use Rattle.numbers.specs.Laws.Both.{both, both_true}
use Rattle.numbers.specs.Laws.Checks.{none_failing, number_first, number_some}
use Rattle.numbers.specs.Laws.Limits.{counter_below}
use Rattle.numbers.specs.Limits.{max_capacity, counter_limit, is_counter_of}
use Rattle.numbers.specs.Whole.{whole}
use Rattle.held.specs.Copies.{Copy, due_by, least_in, leaving}
use Rattle.held.proofs.Due.{if_due, least_due_lem}
use Rattle.tournament.specs.Calls.{least_of}
use Rattle.queue.specs.Tables.{Tables, After, after}
use Rattle.queue.specs.Refusals.{memory_of, in_keeping, push_refusal, release_refusal, state_refusal, due_refusal}
use Rattle.queue.specs.Calls.{Handed, fresh, not_pushed, AfterCopy, enter_copy_of, told_by, told, again_of, second_of, enter_copies_of, push_of, not_released, left_of, due_of, release_of, drain_of, due_at, next_due_of, len_of, is_empty_of}
use Rattle.queue.specs.declared.queue.ImpairQueue.{ImpairQueue}
use Rattle.queue.specs.declared.answers.Queued.{Queued}
use Rattle.queue_laws.specs.Held.{Plain, Step, step_to, entered, none_due, drained, due_next, refused, unless_refused, is_full, with_copy, second_plain, push_checks, push_plain, hand_out, release_checks, release_plain, state_checks, drain_plain, least_due, next_due_plain}
use Rattle.queue_laws.specs.Replies.{Said, said, said_by_push, said_by_release, said_by_drain, said_of_due}
use Rattle.queue_laws.specs.Laws.Keeps.{Keeps, row_of}
use Rattle.queue_laws.specs.Laws.Creation.{long_memory, drained_keeps}
use Rattle.queue_laws.specs.Laws.Push.{Entered, copy_enters}
use Rattle.queue_laws.specs.Laws.Release.{some_held, root_below, number_dues, root_least, release_keeps}

-- what a call says and leaves agrees with a step of the plain queue
pub record Agree (s : Said) (step : Step) : Type 0 where
  pub says : s.reply ≡ step.reply
  pub keeps : Keeps s.tables s.queue step.then

-- ---- the copies that enter

module _ (t : Tables) (q : ImpairQueue) (p : Plain) (k : Keeps t q p) where
  same_full : eqb q.held q.cap ≡ is_full p
  same_full = rw (k.count, k.same_cap)

  -- where the plain queue is not full, there is room
  has_room : is_full p ≡ false → q.held < q.cap
  has_room e = omega (arith, k.held_in, k.opened_in, k.leaves_in, k.count, k.same_cap, eqb-false (length p.held) p.cap e)

-- the answer after the last copy
told_agrees : (seq copies : ℕ) (o : AfterCopy) (p : Plain) → Entered o p → Agree (said_by_push (told seq copies o)) (step_to (entered seq copies) p)
unfolding told_by
told_agrees seq copies o p h = rw h.fits (record { says = refl; keeps = h.keeps })

-- what follows a first copy with that seq
module _ (o : AfterCopy) (p : Plain) (h : Entered o p) (seq : ℕ) (due arrival : Float) (route : ℕ) (duplicated : Bool) (bytes : List ℕ)
    (num : is_nan due ≡ false) (fit : length bytes ≤ p.width) (below : p.next_seq ≤ counter_limit) where
  again_same : again_of duplicated o.gives ≡ (duplicated && not (is_full p))
  again_same = rw (h.fits, same_full o.memory o.gives.0 p h.keeps)

  second_agrees : Agree (said_by_push (second_of seq due arrival route duplicated bytes o)) (second_plain seq p due arrival route duplicated bytes)
  unfolding second_of second_plain
  second_agrees = go (duplicated && not (is_full p)) refl
    where
      go : (b : Bool) → (duplicated && not (is_full p)) ≡ b → Agree (said_by_push (second_of seq due arrival route duplicated bytes o)) (second_plain seq p due arrival route duplicated bytes)
      go false e = rw (again_same, e) (told_agrees seq 1 o p h)
      go true e =
          let room = has_room o.memory o.gives.0 p h.keeps (not-true (is_full p) (both_true duplicated (not (is_full p)) e).1) in
          rw (again_same, e) (told_agrees seq 2 _ _ (copy_enters o.memory o.gives.0 p h.keeps room due arrival route 1 bytes num (omega (arith, fit, h.keeps.same_width)) (omega (arith, h.keeps.same_next, below))))

module _ (t : Tables) (q : ImpairQueue) (p : Plain) (k : Keeps t q p) where
  -- ---- the refusals: neither the memory nor the keeping fails

  memory_holds : memory_of q.width q.cap t ≡ true
  memory_holds = long_memory q.width q.cap t k.long

  keeping_holds : in_keeping q ≡ true
  unfolding in_keeping
  keeping_holds = both _ _ (both _ _ (both _ _ (both _ _ (le-leb _ _ k.small) (le-leb _ _ k.leaves_in)) (le-leb _ _ k.opened_in)) (le-leb _ _ k.held_in)) k.wide

  same_fits : (len : ℕ) → leb len q.width ≡ leb len p.width
  same_fits len = rw k.same_width

  same_counter : is_counter_of q.next_seq ≡ is_counter_of p.next_seq
  same_counter = rw k.same_next

  push_number : (due arrival : Float) (len : ℕ) → number_if (push_refusal q (memory_of q.width q.cap t) due arrival len) ≡ first_failing (push_checks p due arrival len)
  unfolding push_refusal first_failing
  push_number due arrival len = number_first _ ∙ (rw (memory_holds, keeping_holds, same_full t q p k, same_fits len, same_counter))

  release_number : (now : Float) → number_if (release_refusal q (memory_of q.width q.cap t) now) ≡ first_failing (release_checks p now)
  unfolding release_refusal first_failing
  release_number now = number_first _ ∙ (rw (memory_holds, keeping_holds, same_counter))

  state_number : number_if (state_refusal q true) ≡ first_failing (state_checks p)
  unfolding state_refusal first_failing
  state_number = number_first _ ∙ (rw (keeping_holds, same_counter))

  -- a call that is refused by the number by which the plain queue refuses, and else does what its step does
  by_number : {A : Type 0} (says : A → Said) (done : A) (refusal : Refusal → A) (s : Step) → ((e : Refusal) → says (refusal e) ≡ said (refused (number_of e)) q t)
      → (r : Result (Unit {0}) Refusal) (m : ℕ) → number_if r ≡ m → (m ≡ 0 → Agree (says done) s)
      → Agree (says (unless r done refusal)) (unless_refused p m s)
  by_number says done refusal s refuses (Ok u) m same h = rw (← same) (h (sym same))
  by_number says done refusal s refuses (Err e) m same h = rw (← same, number_some e, refuses e) (record { says = refl; keeps = k })

  -- ---- push

  module _ (due arrival : Float) (route id : ℕ) (duplicated : Bool) (bytes : List ℕ) where
    -- the first copy enters, then what follows it
    push_enters : is_full p ≡ false → is_nan due ≡ false → length bytes ≤ p.width → p.next_seq < counter_limit
        → Agree (said_by_push (second_of q.next_seq due arrival route duplicated bytes (enter_copy_of q t due arrival route id bytes)))
        (second_plain p.next_seq (with_copy p due arrival route id bytes) due arrival route duplicated bytes)
    push_enters room num fit below =
        let one = copy_enters t q p k (has_room t q p k room) due arrival route id bytes num (omega (arith, fit, k.same_width)) (omega (arith, k.same_next, below)) in
        subst (λ (seq : ℕ). Agree (said_by_push (second_of seq due arrival route duplicated bytes (enter_copy_of q t due arrival route id bytes)))
        (second_plain p.next_seq (with_copy p due arrival route id bytes) due arrival route duplicated bytes)) (sym k.same_next)
        (second_agrees (enter_copy_of q t due arrival route id bytes) (with_copy p due arrival route id bytes) one p.next_seq due arrival route duplicated bytes num fit (omega (arith, below)))

    -- a push, on any arguments
    pub push_agrees : Agree (said_by_push (push_of q t due arrival route id duplicated bytes)) (push_plain p due arrival route id duplicated bytes)
    unfolding push_of enter_copies_of push_plain
    push_agrees =
        by_number said_by_push (enter_copies_of q t due arrival route id duplicated bytes) (λ (e : Refusal). after (not_pushed q e) t) _ (λ (e : Refusal). refl) _ _ (push_number due arrival (length bytes)) enters
      where
        enters : first_failing (push_checks p due arrival (length bytes)) ≡ 0
            → Agree (said_by_push (second_of q.next_seq due arrival route duplicated bytes (enter_copy_of q t due arrival route id bytes)))
            (second_plain p.next_seq (with_copy p due arrival route id bytes) due arrival route duplicated bytes)
        enters z =
            let all = none_failing (push_checks p due arrival (length bytes)) refl z in
            push_enters (not-true (is_full p) all.1.1.1.1.0) (not-true (is_nan due) all.1.1.0) (leb-true _ _ all.1.0) (counter_below p.next_seq all.1.1.1.0)

  -- ---- release

  abbrev root : ℕ
  root = least_of t.win q.leaves

  -- what a release gives where the root's slot is in the tree, by whether its due has come
  abbrev by_due : Bool → After (Handed (Option Queued))
  by_due b = cond b (left_of q t root) (not_released q (Ok None) t)

  -- where some copy is held, the root is a slot in use
  module _ (c : Copy) (l : List Copy) (e : p.held ≡ c ∷ l) where
    not_empty : eqb q.held 0 ≡ false
    not_empty = ne_eqb q.held 0 (λ z. omega (arith, some_held t q p k c l e))

    in_tree : leb q.leaves root ≡ false
    in_tree = lt-leb q.leaves root (root_below t q p k c l e)

  module _ (now : Float) where
    -- the least of all, if it is due
    root_leaves : (c : Copy) (l : List Copy) → p.held ≡ c ∷ l → leaving now p.held ≡ if_due now (row_of q.width t root)
    root_leaves c l e = ap (leaving now) e ∙ least_due_lem now c l (number_dues t q p k c l e) ∙ ap (if_due now) (root_least t q p k c l e)

    due_or_not : (c : Copy) (l : List Copy) (e : p.held ≡ c ∷ l) (b : Bool) → le (get_or t.dues root (whole 0)) now ≡ b
        → Agree (said_by_release (by_due b)) (hand_out p (if_due now (row_of q.width t root)))
    unfolding hand_out left_of
    due_or_not c l e true h = rw h (record { says = refl; keeps = release_keeps t q p k c l e })
    due_or_not c l e false h = rw h (record { says = refl; keeps = k })

    -- by what is held
    hands_out : (h : List Copy) → p.held ≡ h
        → Agree (said_by_release (cond (eqb q.held 0) (not_released q (Ok None) t) (due_of q t now root))) (hand_out p (leaving now p.held))
    unfolding hand_out leaving due_by least_in due_of
    hands_out [] e = rw (eq-eqb q.held 0 (k.count ∙ ap length e))
        (subst (λ (h : List Copy). Agree (said none_due q t) (hand_out p (leaving now h))) (sym e) (record { says = refl; keeps = k }))
    hands_out (c ∷ l) e = rw (not_empty c l e, in_tree c l e, root_leaves c l e) (due_or_not c l e (le (get_or t.dues root (whole 0)) now) refl)

    -- a release, at any instant
    pub release_agrees : Agree (said_by_release (release_of q t now)) (release_plain p now)
    unfolding release_of release_plain
    release_agrees =
        by_number said_by_release (cond (eqb q.held 0) (not_released q (Ok None) t) (due_of q t now root)) (λ (e : Refusal). not_released q (Err e) t) _ (λ (e : Refusal). refl) _ _
        (release_number now) (λ z. hands_out p.held refl)

  -- ---- drain

  pub drain_agrees : Agree (said_by_drain t (drain_of q)) (drain_plain p)
  unfolding drain_of drain_plain
  drain_agrees =
      by_number (said_by_drain t) (fresh q.cap q.width q.next_seq, Ok q.held) (λ (e : Refusal). (q, Err e)) _ (λ (e : Refusal). refl) _ _
      state_number (λ z. record { says = ap drained k.count; keeps = drained_keeps t q p k })

  -- ---- questions

  due_number : number_if (due_refusal q (length t.win) (length t.dues)) ≡ first_failing (state_checks p)
  unfolding due_refusal
  due_number = rw (le-leb q.cap (length t.win) k.long.win, le-leb q.cap (length t.dues) k.long.dues) state_number

  -- the least due that is held
  tells_least : (h : List Copy) → p.held ≡ h → said_of_due (cond (eqb q.held 0) (Ok None) (due_at q t.dues root)) ≡ least_due p.held
  unfolding least_due due_at
  tells_least [] e = rw (eq-eqb q.held 0 (k.count ∙ ap length e), e)
  tells_least (c ∷ l) e = rw (not_empty c l e, in_tree c l e, e) (ap (λ (x : Copy). due_next x.due) (sym (root_least t q p k c l e)))

  pub due_agrees : Agree (said (said_of_due (next_due_of q t.win t.dues)) q t) (next_due_plain p)
  unfolding next_due_of next_due_plain
  due_agrees =
      by_number (λ (a : Result (Option Float) Refusal). said (said_of_due a) q t) (cond (eqb q.held 0) (Ok None) (due_at q t.dues root)) (λ (e : Refusal). Err e) _ (λ (e : Refusal). refl) _ _ due_number
      (λ z. record { says = tells_least p.held refl; keeps = k })

  -- the number of copies that are held
  pub len_agrees : len_of q ≡ length p.held
  len_agrees = k.count

  pub empty_agrees : is_empty_of q ≡ eqb (length p.held) 0
  empty_agrees = ap (λ (n : ℕ). eqb n 0) k.count

  -- no more copies are held than the capacity, which is at most 1,048,576, and the next seq is at most one more than a counter may be
  pub held_within : length p.held ≤ p.cap
  held_within = omega (arith, k.count, k.held_in, k.opened_in, k.leaves_in, k.same_cap)

  pub cap_within : p.cap ≤ max_capacity
  cap_within = omega (arith, k.small, k.same_cap)

  pub next_within : p.next_seq ≤ counter_limit + 1
  next_within = omega (arith, k.next_in, k.same_next)
