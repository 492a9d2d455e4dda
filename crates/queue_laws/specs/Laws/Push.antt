-- A push that is not refused carries `Keeps` on: the copy stands at the end of the held list.
use Rattle.std.specs.Prelude.{◌≡◌, refl, ◌≢◌, ◌⊎◌, true, List, ◌∷◌, ℕ, ◌+◌, ◌-◌, ◌*◌, ◌<◌, ◌≤◌, max, length, get_or, set, Float, Ok}
use Rattle.std.proofs.Common.{sym, ap, ◌∙◌, inl, inr, arith, length-set, length-append, get_or-set_same, get_or-set_other, eq-eqb, ne_eqb}
use Rattle.std.proofs.Math.Path.{subst}
use Rattle.std.proofs.Math.Logic.{⊎_elim}
use Rattle.numbers.specs.Whole.{whole}
use Rattle.held.specs.Copies.{Copy, copy}
use Rattle.held.specs.Laws.Order.{Num}
use Rattle.tables.specs.Slots.{filled_of}
use Rattle.tournament.specs.Paths.{climbed_of}
use Rattle.tournament.specs.Growth.{free_due, free_seq, free_dues, free_seqs, built_of, Tree, grown_of, leaves_for, widened_of}
use Rattle.tournament.specs.Calls.{fits_of, placed_of, enter_of}
use Rattle.queue.specs.Tables.{Tables, tables, rows_of, written_of, tree_of, joined}
use Rattle.queue.specs.Calls.{next_slot, one_more, AfterCopy, entered_of, enter_copy_of}
use Rattle.queue.specs.declared.queue.ImpairQueue.{ImpairQueue}
use Rattle.queue_laws.specs.Held.{Plain, with_copy}
use Rattle.queue_laws.specs.Laws.Tree.{eq_cases, lt_cases, due_order, climbed_length}
use Rattle.queue_laws.specs.Laws.Growth.{set_all_length, set_all_below, set_all_at, built_length, built_good, widened_same, widened_more}
use Rattle.queue_laws.specs.Laws.Calls.{true_fits, enter_is}
use Rattle.queue_laws.specs.Laws.Slots.{slot_inside, filled_length, filled_here, filled_there}
use Rattle.queue_laws.specs.Laws.Rows.{Perm, skip, trans, perm_last, seq_limit, view, view_push, view_same, view_more}
use Rattle.queue_laws.specs.Laws.Keeps.{Keeps, Slot, row_of, num_inf}
use Rattle.queue_laws.specs.Laws.Keys.{due_here, due_there, seq_here, seq_there, take_good}

-- a slot is the one that the next copy takes: the first that was never used, or the last that a copy left
abbrev pub Next : ImpairQueue → List ℕ → ℕ → Type 0
Next q free s = ((q.held ≡ q.opened) × (s ≡ q.opened)) ⊎ ((q.held < q.opened) × (s ≡ get_or free (q.opened - q.held - 1) 0))

pub next_slot_lem : (q : ImpairQueue) (free : List ℕ) → q.held ≤ q.opened → Next q free (next_slot q free)
unfolding next_slot
next_slot_lem q free h = ⊎_elim
    (λ (e : q.held ≡ q.opened). inl (e, rw (eq-eqb q.held q.opened e)))
    (λ (e : q.held ≢ q.opened). inr (omega arith, rw (ne_eqb q.held q.opened e)))
    (eq_cases q.held q.opened)

-- a copy entered: its slot was in range, and the tables keep the plain queue with it
pub record Entered (o : AfterCopy) (p : Plain) : Type 0 where
  pub fits : o.gives.1 ≡ Ok tt
  pub keeps : Keeps o.memory o.gives.0 p

-- ---- a copy enters a slot that has a leaf

module _ (t : Tables) (q : ImpairQueue) (p : Plain) (k : Keeps t q p) (due arrival : Float) (route id : ℕ) (bytes : List ℕ) (num : Num due) (fit : length bytes ≤ q.width) (more : q.next_seq < seq_limit) (s : ℕ) (which : Next q t.free s) (low : s < q.leaves) where
  was_free_seq : seq_limit ≤ get_or t.seqs s 0
  was_free_seq = ⊎_elim (λ w. k.unused s (omega (arith, w.1)) low) (λ w. rw w.1 (k.seqs_free _ (omega (arith, w.0)))) which

  opened_next : s < max q.opened (q.held + 1)
  opened_next = ⊎_elim (λ w. omega (arith, w.0, w.1)) (λ w. let h = k.free_low (q.opened - q.held - 1) (omega (arith, w.0)) in omega (arith, w.1)) which

  opened_inside : max q.opened (q.held + 1) ≤ q.leaves
  opened_inside = ⊎_elim (λ w. omega (arith, w.0, w.1, low)) (λ w. omega (arith, w.0, k.opened_in)) which

  was_free : (get_or t.dues s (whole 0) ≡ free_due) × (get_or t.seqs s 0 ≡ free_seq)
  was_free = ⊎_elim (λ w. w) (λ w. absurd (omega (arith, w.1, k.next_in, was_free_seq))) (k.slots s low)

  has_store : s * q.width + q.width ≤ length t.store
  has_store = slot_inside q.width q.cap s (length t.store) k.long.store (omega (arith, k.leaves_in))

  abbrev t' : Tables
  t' = tables (climbed_of (set t.dues s due) (set t.seqs s q.next_seq) q.leaves (q.leaves + s) t.win (q.leaves + s) s) t.free (set t.dues s due) (set t.seqs s q.next_seq)
      (set t.arrivals s arrival) (set t.routes s route) (set t.copy_ids s id) (set t.lengths s (length bytes)) (filled_of q.width t.store s bytes)

  here_due : get_or t'.dues s (whole 0) ≡ due
  here_due = due_here t q p k s due q.next_seq low num

  there_due : (x : ℕ) → x ≢ s → get_or t'.dues x (whole 0) ≡ get_or t.dues x (whole 0)
  there_due = due_there t q p k s due q.next_seq low num

  here_seq : get_or t'.seqs s 0 ≡ q.next_seq
  here_seq = seq_here t q p k s due q.next_seq low num

  there_seq : (x : ℕ) → x ≢ s → get_or t'.seqs x 0 ≡ get_or t.seqs x 0
  there_seq = seq_there t q p k s due q.next_seq low num

  old_seq : (y : ℕ) → y < q.leaves → get_or t.seqs y 0 ≢ q.next_seq
  old_seq y h e = ⊎_elim (λ w. omega (arith, w.1)) (λ w. omega (arith, w.1)) (k.slots y h)

  push_slots : (x : ℕ) → x < q.leaves → Slot t' (q.next_seq + 1) x
  push_slots x h = ⊎_elim
      (λ (e : x ≡ s). inr (rw (e, here_due) num, rw (e, here_seq) (omega arith)))
      (λ (e : x ≢ s). rw (there_due x e, there_seq x e) (⊎_elim (λ w. inl w) (λ w. inr (w.0, omega (arith, w.1))) (k.slots x h)))
      (eq_cases x s)

  push_uniq : (x y : ℕ) → x < q.leaves → y < q.leaves → get_or t'.seqs x 0 < seq_limit → get_or t'.seqs y 0 ≡ get_or t'.seqs x 0 → y ≡ x
  push_uniq x y hx hy l e = go (eq_cases x s) (eq_cases y s)
    where
      go : (x ≡ s) ⊎ (x ≢ s) → (y ≡ s) ⊎ (y ≢ s) → y ≡ x
      go (inl u) (inl v) = v ∙ sym u
      go (inl u) (inr v) = absurd (old_seq y hy (sym (there_seq y v) ∙ e ∙ ap (λ (z : ℕ). get_or t'.seqs z 0) u ∙ here_seq))
      go (inr u) (inl v) = absurd (old_seq x hx (sym (there_seq x u) ∙ sym e ∙ ap (λ (z : ℕ). get_or t'.seqs z 0) v ∙ here_seq))
      go (inr u) (inr v) = k.uniq x y hx hy (rw (there_seq x u) at l) (sym (there_seq y v) ∙ e ∙ there_seq x u)

  other_free : (j : ℕ) → j < max q.opened (q.held + 1) - (q.held + 1) → get_or t.free j 0 ≢ s
  other_free j h e = ⊎_elim
      (λ w. omega (arith, w.0))
      (λ w. let z : j ≡ q.opened - q.held - 1 = k.apart j (q.opened - q.held - 1) (omega arith) (omega (arith, w.0)) (e ∙ w.1) in omega (arith, w.0))
      which

  push_rows : (x : ℕ) → x ≢ s → row_of q.width t' x ≡ row_of q.width t x
  push_rows x h =
      rw (
        there_due x h,
        there_seq x h,
        get_or-set_other t.arrivals s x arrival (whole 0) h,
        get_or-set_other t.routes s x route 0 h,
        get_or-set_other t.copy_ids s x id 0 h,
        get_or-set_other t.lengths s x (length bytes) 0 h,
        filled_there q.width t.store s bytes fit has_store x (get_or t.lengths x 0) h,
      )

  push_row : row_of q.width t' s ≡ copy due p.next_seq arrival route id (length bytes) bytes
  push_row =
      rw (
        here_due,
        here_seq,
        get_or-set_same t.arrivals s arrival (whole 0) (omega (arith, k.long.arrivals, k.leaves_in, low)),
        get_or-set_same t.routes s route 0 (omega (arith, k.long.routes, k.leaves_in, low)),
        get_or-set_same t.copy_ids s id 0 (omega (arith, k.long.copy_ids, k.leaves_in, low)),
        get_or-set_same t.lengths s (length bytes) 0 (omega (arith, k.long.lengths, k.leaves_in, low)),
        filled_here q.width t.store s bytes fit has_store,
        k.same_next,
      )

  push_keeps : Keeps t' (one_more q q.leaves) (with_copy p due arrival route id bytes)
  push_keeps = record {
    pos = k.pos;
    small = k.small;
    wide = k.wide;
    long = record {
      win = rw climbed_length k.long.win;
      free = k.long.free;
      dues = rw length-set k.long.dues;
      seqs = rw length-set k.long.seqs;
      arrivals = rw length-set k.long.arrivals;
      routes = rw length-set k.long.routes;
      copy_ids = rw length-set k.long.copy_ids;
      lengths = rw length-set k.long.lengths;
      store = rw (filled_length q.width t.store s bytes fit has_store) k.long.store;
    };
    next_in = omega arith;
    held_in = omega arith;
    opened_in = opened_inside;
    leaves_in = k.leaves_in;
    good = take_good t q p k s due q.next_seq low num was_free.0 was_free.1 (omega arith);
    slots = push_slots;
    unused = λ (x : ℕ) (h : max q.opened (q.held + 1) ≤ x) (l : x < q.leaves). rw (there_seq x (λ (e : x ≡ s). omega (arith, opened_next))) (k.unused x (omega arith) l);
    uniq = push_uniq;
    free_low = λ (j : ℕ) (h : j < max q.opened (q.held + 1) - (q.held + 1)). omega (arith, k.free_low j (omega arith));
    seqs_free = λ (j : ℕ) (h : j < max q.opened (q.held + 1) - (q.held + 1)). rw (there_seq (get_or t.free j 0) (other_free j h)) (k.seqs_free j (omega arith));
    apart = λ (i j : ℕ) (hi : i < max q.opened (q.held + 1) - (q.held + 1)) (hj : j < max q.opened (q.held + 1) - (q.held + 1)). k.apart i j (omega arith) (omega arith);
    count = rw length-append (omega (arith, k.count));
    same_next = omega (arith, k.same_next);
    same_cap = k.same_cap;
    same_width = k.same_width;
    same = trans (perm_last p.held _) (trans (skip _ k.same) (subst (λ (x : Copy). Perm (x ∷ view (row_of q.width t) q.leaves) (view (row_of q.width t') q.leaves)) push_row
        (view_push (row_of q.width t) (row_of q.width t') s push_rows was_free_seq (rw here_seq (omega arith)) q.leaves low)));
  }

-- ---- the tree grows

module _ (t : Tables) (q : ImpairQueue) (p : Plain) (k : Keeps t q p) (n : ℕ) (more : q.leaves ≤ n) (some : 0 < n) (most : n ≤ q.cap) where
  abbrev t⁺ : Tables
  t⁺ = tables (built_of (free_dues q.leaves n t.dues) (free_seqs q.leaves n t.seqs) n (n - 1) t.win) t.free (free_dues q.leaves n t.dues) (free_seqs q.leaves n t.seqs)
      t.arrivals t.routes t.copy_ids t.lengths t.store

  new_due : (s : ℕ) → q.leaves ≤ s → s < n → get_or t⁺.dues s (whole 0) ≡ free_due
  new_due s h l = set_all_at free_due q.leaves (n - q.leaves) t.dues s (whole 0) h (omega arith) (omega (arith, k.long.dues))

  new_seq : (s : ℕ) → q.leaves ≤ s → s < n → get_or t⁺.seqs s 0 ≡ free_seq
  new_seq s h l = set_all_at free_seq q.leaves (n - q.leaves) t.seqs s 0 h (omega arith) (omega (arith, k.long.seqs))

  kept_due : (s : ℕ) → s < q.leaves → get_or t⁺.dues s (whole 0) ≡ get_or t.dues s (whole 0)
  kept_due s h = set_all_below free_due q.leaves (n - q.leaves) t.dues s (whole 0) h

  kept_seq : (s : ℕ) → s < q.leaves → get_or t⁺.seqs s 0 ≡ get_or t.seqs s 0
  kept_seq s h = set_all_below free_seq q.leaves (n - q.leaves) t.seqs s 0 h

  grow_slots : (s : ℕ) → s < n → Slot t⁺ q.next_seq s
  grow_slots s h = ⊎_elim (λ (l : s < q.leaves). rw (kept_due s l, kept_seq s l) (k.slots s l)) (λ (l : q.leaves ≤ s). inl (new_due s l h, new_seq s l h)) (lt_cases s q.leaves)

  grow_num : (s : ℕ) → s < n → Num (get_or t⁺.dues s (whole 0))
  grow_num s h = ⊎_elim (λ w. rw w.0 num_inf) (λ w. w.0) (grow_slots s h)

  in_tree : (s : ℕ) → s < n → get_or t⁺.seqs s 0 < seq_limit → s < q.leaves
  in_tree s h u = ⊎_elim (λ (l : s < q.leaves). l) (λ (l : q.leaves ≤ s). let z : free_seq < seq_limit = rw (new_seq s l h) at u in absurd (omega arith)) (lt_cases s q.leaves)

  grow_uniq : (s x : ℕ) → s < n → x < n → get_or t⁺.seqs s 0 < seq_limit → get_or t⁺.seqs x 0 ≡ get_or t⁺.seqs s 0 → x ≡ s
  grow_uniq s x hs hx u e =
      let a = in_tree s hs u in
      let b = in_tree x hx (rw e u) in
      k.uniq s x a b (rw (kept_seq s a) at u) (sym (kept_seq x b) ∙ e ∙ kept_seq s a)

  grow_rows : (s : ℕ) → s < q.leaves → row_of q.width t⁺ s ≡ row_of q.width t s
  grow_rows s h = rw (kept_due s h, kept_seq s h)

  grow_keeps : Keeps t⁺ (record { cap = q.cap; width = q.width; held = q.held; next_seq = q.next_seq; leaves = n; opened = q.opened }) p
  grow_keeps = record {
    pos = k.pos;
    small = k.small;
    wide = k.wide;
    long = record {
      win = rw built_length k.long.win;
      free = k.long.free;
      dues = rw set_all_length k.long.dues;
      seqs = rw set_all_length k.long.seqs;
      arrivals = k.long.arrivals;
      routes = k.long.routes;
      copy_ids = k.long.copy_ids;
      lengths = k.long.lengths;
      store = k.long.store;
    };
    next_in = k.next_in;
    held_in = k.held_in;
    opened_in = omega (arith, k.opened_in);
    leaves_in = most;
    good = built_good _ _ n (due_order _ _ n grow_num) (n - 1) t.win (omega arith) (omega (arith, k.long.win)) (λ (i : ℕ) (a : n - 1 < i) (b : i < n). absurd (omega arith));
    slots = grow_slots;
    unused = λ (s : ℕ) (h : q.opened ≤ s) (l : s < n). ⊎_elim (λ (u : s < q.leaves). rw (kept_seq s u) (k.unused s h u)) (λ (u : q.leaves ≤ s). rw (new_seq s u l) (omega arith)) (lt_cases s q.leaves);
    uniq = grow_uniq;
    free_low = k.free_low;
    seqs_free = λ (j : ℕ) (h : j < q.opened - q.held). rw (kept_seq (get_or t.free j 0) (omega (arith, k.free_low j h, k.opened_in))) (k.seqs_free j h);
    apart = k.apart;
    count = k.count;
    same_next = k.same_next;
    same_cap = k.same_cap;
    same_width = k.same_width;
    same = subst (λ (l : List Copy). Perm p.held l) (sym (view_more (row_of q.width t⁺) q.leaves n more (λ (x : ℕ) (a : q.leaves ≤ x) (b : x < n). rw (new_seq x a b) (omega arith)) ∙ view_same (row_of q.width t⁺) (row_of q.width t) q.leaves grow_rows)) k.same;
  }

-- ---- a copy enters, and the tree grows where its slot has no leaf

module _ (t : Tables) (q : ImpairQueue) (p : Plain) (k : Keeps t q p) (room : q.held < q.cap) where
  next_high : next_slot q t.free ≤ q.opened
  next_high = ⊎_elim (λ w. omega (arith, w.1)) (λ w. omega (arith, w.1, k.free_low (q.opened - q.held - 1) (omega (arith, w.0)))) (next_slot_lem q t.free k.held_in)

  next_low : next_slot q t.free < q.cap
  next_low = ⊎_elim (λ w. omega (arith, w.0, w.1)) (λ w. omega (arith, w.1, k.opened_in, k.leaves_in, k.free_low (q.opened - q.held - 1) (omega (arith, w.0)))) (next_slot_lem q t.free k.held_in)

  -- the next slot can enter the tree, so that 26 does not come
  next_fits : fits_of q.cap q.leaves (next_slot q t.free) ≡ true
  next_fits = true_fits q.cap q.leaves (next_slot q t.free) k.small k.leaves_in next_low (omega (arith, next_high, k.opened_in))

  module _ (due arrival : Float) (route id : ℕ) (bytes : List ℕ) (num : Num due) (fit : length bytes ≤ q.width) (more : q.next_seq < seq_limit) where
    -- the copy stands in the tables that have the tree g
    abbrev Enters : Tree → Type 0
    Enters g = Keeps (joined g t.free (written_of q.width (rows_of t) (next_slot q t.free) arrival route id bytes)) (one_more q g.leaves) (with_copy p due arrival route id bytes)

    widened_keeps : Enters (placed_of (widened_of q.cap q.leaves (next_slot q t.free) (tree_of q.leaves t)) (next_slot q t.free) due q.next_seq)
    unfolding grown_of placed_of written_of
    widened_keeps = ⊎_elim
        (λ (h : next_slot q t.free < q.leaves).
        subst (λ (g : Tree). Enters (placed_of g (next_slot q t.free) due q.next_seq)) (sym (widened_same q.cap q.leaves (next_slot q t.free) (tree_of q.leaves t) h))
        (push_keeps t q p k due arrival route id bytes num fit more (next_slot q t.free) (next_slot_lem q t.free k.held_in) h))
        (λ (h : q.leaves ≤ next_slot q t.free).
        subst (λ (g : Tree). Enters (placed_of g (next_slot q t.free) due q.next_seq)) (sym (widened_more q.cap q.leaves (next_slot q t.free) (tree_of q.leaves t) h))
        (push_keeps _ _ p (grow_keeps t q p k (leaves_for q.cap q.leaves) (omega (arith, k.leaves_in)) (omega (arith, k.pos)) (omega arith)) due arrival route id bytes num fit more (next_slot q t.free) (next_slot_lem q t.free k.held_in) (omega (arith, next_high, next_low, k.opened_in))))
        (lt_cases (next_slot q t.free) q.leaves)

    enter_keeps : Enters (enter_of q.cap (next_slot q t.free) due q.next_seq (tree_of q.leaves t))
    enter_keeps = subst Enters (sym (enter_is q.cap (next_slot q t.free) due q.next_seq (tree_of q.leaves t) next_fits)) widened_keeps

    pub copy_enters : Entered (enter_copy_of q t due arrival route id bytes) (with_copy p due arrival route id bytes)
    unfolding enter_copy_of entered_of
    copy_enters = rw next_fits (record { fits = refl; keeps = enter_keeps })
