-- A queue that was created or drained holds nothing, on any lent memory that is long enough: no table is read or written.
use Rattle.std.proofs.Math.Path.{◌≡◌}
use Rattle.std.specs.Prelude.{refl, ◌⊎◌, [], Bool, true, false, cond, not, ◌&&◌, ℕ, ◌-◌, ◌*◌, ◌<◌, ◌≤◌, length, get_or, Ok, Err}
use Rattle.std.proofs.Common.{subst, inl, inr, arith, le-leb, leb-true}
use Rattle.std.proofs.Math.Dec.{leb}
use Rattle.std.proofs.lemmas.Bool.{lt-leb}
use Rattle.numbers.specs.Laws.Both.{both_true}
use Rattle.numbers.specs.Laws.NotNan.{cond_has}
use Rattle.numbers.specs.Limits.{max_capacity, min_width, max_width, is_width_of}
use Rattle.numbers.specs.declared.refusal.Refusal.{Refusal}
use Rattle.numbers.specs.declared.refusal.Refusal.TheVariants as refusal
use Rattle.held.specs.Copies.{Copy}
use Rattle.queue.specs.Tables.{Tables}
use Rattle.queue.specs.Refusals.{room_of, memory_of}
use Rattle.queue.specs.Calls.{Handed, default_width, fresh, not_created, create_of}
use Rattle.queue.specs.declared.queue.ImpairQueue.{ImpairQueue}
use Rattle.queue_laws.specs.Held.{Plain, plain}
use Rattle.queue_laws.specs.Laws.Rows.{none, seq_limit, view, Perm}
use Rattle.queue_laws.specs.Laws.Keeps.{Keeps, Long, row_of}

no_rows : (row : ℕ → Copy) → Perm [] (view row 0)
unfolding view
no_rows row = none

-- nothing is held, and no slot was used
pub nothing_held : (cap width : ℕ) (t : Tables) (next : ℕ) → 0 < cap → cap ≤ max_capacity → is_width_of width ≡ true → Long width cap t → next ≤ seq_limit
    → Keeps t (fresh cap width next) (plain cap width [] next)
nothing_held cap width t next pos small wide long next_in = record {
  pos = pos;
  small = small;
  wide = wide;
  long = long;
  next_in = next_in;
  held_in = omega arith;
  opened_in = omega arith;
  leaves_in = omega arith;
  good = λ (i : ℕ) (p : 0 < i) (b : i < 0). absurd (omega arith);
  slots = λ (s : ℕ) (b : s < 0). absurd (omega arith);
  unused = λ (s : ℕ) (a : 0 ≤ s) (b : s < 0). absurd (omega arith);
  uniq = λ (s x : ℕ) (a : s < 0) (b : x < 0) (u : get_or t.seqs s 0 < seq_limit) (e : get_or t.seqs x 0 ≡ get_or t.seqs s 0). absurd (omega arith);
  free_low = λ (j : ℕ) (b : j < 0 - 0). absurd (omega arith);
  seqs_free = λ (j : ℕ) (b : j < 0 - 0). absurd (omega arith);
  apart = λ (i j : ℕ) (a : i < 0 - 0) (b : j < 0 - 0) (e : get_or t.free i 0 ≡ get_or t.free j 0). absurd (omega arith);
  count = refl;
  same_next = refl;
  same_cap = refl;
  same_width = refl;
  same = no_rows (row_of width t);
}

-- a queue that is drained holds nothing
pub drained_keeps : (t : Tables) (q : ImpairQueue) (p : Plain) → Keeps t q p → Keeps t (fresh q.cap q.width q.next_seq) (plain p.cap p.width [] p.next_seq)
drained_keeps t q p k =
    subst (λ (c : ℕ). Keeps t (fresh q.cap q.width q.next_seq) (plain c p.width [] p.next_seq)) k.same_cap
    (subst (λ (w : ℕ). Keeps t (fresh q.cap q.width q.next_seq) (plain q.cap w [] p.next_seq)) k.same_width
    (subst (λ (x : ℕ). Keeps t (fresh q.cap q.width q.next_seq) (plain q.cap q.width [] x)) k.same_next
    (nothing_held q.cap q.width t q.next_seq k.pos k.small k.wide k.long k.next_in)))

-- ---- the test of the memory

-- the test is true exactly for memory that is long enough
pub long_memory : (width cap : ℕ) (t : Tables) → Long width cap t → memory_of width cap t ≡ true
unfolding memory_of room_of
long_memory width cap t l =
    rw (le-leb _ _ l.win, le-leb _ _ l.free, le-leb _ _ l.dues, le-leb _ _ l.seqs, le-leb _ _ l.arrivals, le-leb _ _ l.routes, le-leb _ _ l.copy_ids, le-leb _ _ l.lengths, le-leb _ _ l.store)

-- nine tests of which each is true
record AllTrue (a b c d e f g h i : Bool) : Type 0 where
  one : a ≡ true
  two : b ≡ true
  three : c ≡ true
  four : d ≡ true
  five : e ≡ true
  six : f ≡ true
  seven : g ≡ true
  eight : h ≡ true
  nine : i ≡ true

all_true : (a b c d e f g h i : Bool) → (a && b && c && d && e && f && g && h && i) ≡ true → AllTrue a b c d e f g h i
all_true a b c d e f g h i all =
    let to_h = both_true (a && b && c && d && e && f && g && h) i all in
    let to_g = both_true (a && b && c && d && e && f && g) h to_h.0 in
    let to_f = both_true (a && b && c && d && e && f) g to_g.0 in
    let to_e = both_true (a && b && c && d && e) f to_f.0 in
    let to_d = both_true (a && b && c && d) e to_e.0 in
    let to_c = both_true (a && b && c) d to_d.0 in
    let to_b = both_true (a && b) c to_c.0 in
    let to_a = both_true a b to_b.0 in
    record { one = to_a.0; two = to_a.1; three = to_b.1; four = to_c.1; five = to_d.1; six = to_e.1; seven = to_f.1; eight = to_g.1; nine = to_h.1 }

pub memory_long : (width cap : ℕ) (t : Tables) → memory_of width cap t ≡ true → Long width cap t
unfolding memory_of room_of
memory_long width cap t h =
    let all = all_true (leb cap (length t.win)) (leb cap (length t.free)) (leb cap (length t.dues)) (leb cap (length t.seqs)) (leb cap (length t.arrivals)) (leb cap (length t.routes)) (leb cap (length t.copy_ids)) (leb cap (length t.lengths)) (leb (cap * width) (length t.store)) h in
    record {
      win = leb-true _ _ all.one;
      free = leb-true _ _ all.two;
      dues = leb-true _ _ all.three;
      seqs = leb-true _ _ all.four;
      arrivals = leb-true _ _ all.five;
      routes = leb-true _ _ all.six;
      copy_ids = leb-true _ _ all.seven;
      lengths = leb-true _ _ all.eight;
      store = leb-true _ _ all.nine;
    }

short_memory : (width cap : ℕ) (t : Tables) → (Long width cap t → ⊥) → memory_of width cap t ≡ false
short_memory width cap t lacks = go (memory_of width cap t) refl
  where
    go : (b : Bool) → memory_of width cap t ≡ b → b ≡ false
    go true e = absurd (lacks (memory_long width cap t e))
    go false e = refl

-- ---- creation: the four cases, of which exactly one holds

-- 24: the capacity is out of range
pub create_capacity : (cap width : ℕ) (t : Tables) → (cap < 1) ⊎ (max_capacity < cap) → create_of cap width t ≡ not_created refusal.Capacity
unfolding create_of
create_capacity cap width t (inl h) = rw (lt-leb 1 cap h)
create_capacity cap width t (inr h) = rw (le-leb 1 cap (omega arith), lt-leb cap max_capacity h)

-- 30: the width is out of range
pub create_width : (cap width : ℕ) (t : Tables) → 0 < cap → cap ≤ max_capacity → (width < min_width) ⊎ (max_width < width) → create_of cap width t ≡ not_created refusal.Width
unfolding create_of is_width_of
create_width cap width t pos small (inl h) = rw (le-leb 1 cap pos, le-leb cap max_capacity small, lt-leb min_width width h)
create_width cap width t pos small (inr h) = rw (le-leb 1 cap pos, le-leb cap max_capacity small, le-leb min_width width (omega arith), lt-leb width max_width h)

-- 23: the memory is too short
pub create_memory : (cap width : ℕ) (t : Tables) → 0 < cap → cap ≤ max_capacity → is_width_of width ≡ true → (Long width cap t → ⊥) → create_of cap width t ≡ not_created refusal.Memory
unfolding create_of
create_memory cap width t pos small wide lacks = rw (le-leb 1 cap pos, le-leb cap max_capacity small, wide, short_memory width cap t lacks)

-- else it is created
pub create_made : (cap width : ℕ) (t : Tables) → 0 < cap → cap ≤ max_capacity → is_width_of width ≡ true → Long width cap t → create_of cap width t ≡ (fresh cap width 0, Ok tt)
unfolding create_of
create_made cap width t pos small wide long = rw (le-leb 1 cap pos, le-leb cap max_capacity small, wide, long_memory width cap t long)

-- what holds of a refusal, and of what comes where the test passes
passed_test : {A : Type 0} (P : A → Type 0) (b : Bool) {x y : A} → P x → (b ≡ true → P y) → P (cond (not b) x y)
passed_test P true refused passes = passes refl
passed_test P false refused passes = refused

-- a creation that was not refused: the queue holds nothing, on any lent memory
module _ (cap width : ℕ) (t : Tables) where
  abbrev Empty : Handed (Unit {0}) → Type 0
  Empty c = c.1 ≡ Ok tt → Keeps t c.0 (plain cap width [] 0)

  not_made : (k : Refusal) → Empty (not_created k)
  not_made k h = cc

  made : (leb 1 cap && leb cap max_capacity) ≡ true → is_width_of width ≡ true → memory_of width cap t ≡ true → Empty (fresh cap width 0, Ok tt)
  made in_range wide long h =
      let range = both_true (leb 1 cap) (leb cap max_capacity) in_range in
      nothing_held cap width t 0 (leb-true 1 cap range.0) (leb-true cap max_capacity range.1) wide (memory_long width cap t long) (omega arith)

  pub create_keeps : Empty (create_of cap width t)
  unfolding create_of
  create_keeps = passed_test Empty (leb 1 cap && leb cap max_capacity) (not_made refusal.Capacity) (λ a.
      passed_test Empty (is_width_of width) (not_made refusal.Width) (λ b.
      passed_test Empty (memory_of width cap t) (not_made refusal.Memory) (λ c. made a b c)))

-- a creation that was refused: a queue of capacity 1 and width 2,048 that holds nothing, on any memory that is long enough for it
module _ (cap width : ℕ) (t later : Tables) (r : Refusal) where
  abbrev One : Handed (Unit {0}) → Type 0
  One c = c.1 ≡ Err r → memory_of default_width 1 later ≡ true → Keeps later c.0 (plain 1 default_width [] 0)

  one : (k : Refusal) → One (not_created k)
  unfolding is_width_of
  one k e long = nothing_held 1 default_width later 0 (omega arith) (omega arith) refl (memory_long default_width 1 later long) (omega arith)

  pub refused_keeps : One (create_of cap width t)
  unfolding create_of
  refused_keeps =
      cond_has One (not (leb 1 cap && leb cap max_capacity)) (one refusal.Capacity)
      (cond_has One (not (is_width_of width)) (one refusal.Width)
      (cond_has One (not (memory_of width cap t)) (one refusal.Memory) (λ e long. cc)))
