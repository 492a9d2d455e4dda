-- A release that lets a copy leave carries `Keeps` on: the copy at the root is the least, and all but it are left.
use Rattle.std.specs.Prelude.{◌≡◌, refl, ◌≢◌, ◌⊎◌, List, ◌∷◌, false, ℕ, ◌+◌, ◌-◌, ◌<◌, ◌≤◌, length, set, Float}
use Rattle.std.proofs.Common.{sym, ◌∙◌, inl, inr, ⊎_elim, arith, length-set, get_or-set_same, get_or-set_other}
use Rattle.std.proofs.Math.Path.{ap, subst}
use Rattle.std.proofs.Math.ListN.{get_or}
use Rattle.numbers.specs.Whole.{whole}
use Rattle.held.specs.Order.{before_of}
use Rattle.held.specs.Copies.{Copy, least, without, Mem, NumberDues}
use Rattle.held.specs.Laws.Order.{before_same}
use Rattle.held.specs.Laws.Least.{least_mem, least_le}
use Rattle.tournament.specs.Nodes.{less_of}
use Rattle.tournament.specs.Paths.{carried_of}
use Rattle.tournament.specs.Growth.{free_due, free_seq, Tree}
use Rattle.tournament.specs.Calls.{freed_of, leave_of, least_of}
use Rattle.queue.specs.Tables.{Tables, tables, rows_of, tree_of, joined}
use Rattle.queue.specs.Calls.{one_less}
use Rattle.queue.specs.declared.queue.ImpairQueue.{ImpairQueue}
use Rattle.queue_laws.specs.Held.{Plain, plain}
use Rattle.queue_laws.specs.Laws.Tree.{eq_cases, lt_cases, due_order, carried_length, root_low, root_min}
use Rattle.queue_laws.specs.Laws.Calls.{leave_is}
use Rattle.queue_laws.specs.Laws.Rows.{Perm, perm_sym, perm_length, perm_mem, perm_without, seq_limit, view, view_mem, view_place, Place, view_push, view_pop}
use Rattle.queue_laws.specs.Laws.Keeps.{Keeps, Slot, row_of, num_inf, nums}
use Rattle.queue_laws.specs.Laws.Keys.{before_free, clash, due_here, due_there, seq_here, seq_there, set_good}

module _ (t : Tables) (q : ImpairQueue) (p : Plain) (k : Keeps t q p) (c : Copy) (l : List Copy) (some : p.held ≡ c ∷ l) where
  abbrev root : ℕ
  root = least_of t.win q.leaves

  pub some_held : 0 < q.held
  some_held = omega (arith, k.count, ap length some)

  pub root_below : root < q.leaves
  unfolding least_of
  root_below = root_low t.dues t.seqs q.leaves (due_order t.dues t.seqs q.leaves (nums t q p k)) (omega (arith, some_held, k.held_in, k.opened_in)) t.win k.good

  least_key : (x : ℕ) → x < q.leaves → less_of t.dues t.seqs x root ≡ false
  unfolding least_of
  least_key = root_min t.dues t.seqs q.leaves (due_order t.dues t.seqs q.leaves (nums t q p k)) (omega (arith, some_held, k.held_in, k.opened_in)) t.win k.good

  perm : Perm (c ∷ l) (view (row_of q.width t) q.leaves)
  perm = subst (λ (h : List Copy). Perm h (view (row_of q.width t) q.leaves)) some k.same

  place : (x : Copy) → Mem x (c ∷ l) → Place (row_of q.width t) q.leaves x
  place x h = view_place (row_of q.width t) q.leaves x (perm_mem x perm h)

  -- the root is in use
  root_live : get_or t.seqs root 0 < seq_limit
  unfolding less_of
  root_live = go (place c (inl refl)) (k.slots root root_below)
    where
      go : Place (row_of q.width t) q.leaves c → Slot t q.next_seq root → get_or t.seqs root 0 < seq_limit
      go o (inl w) = clash (sym (before_free _ _ (nums t q p k o.slot o.low) (omega (arith, o.used)))
          ∙ subst (λ (x : Float). before_of (get_or t.dues o.slot (whole 0)) (get_or t.seqs o.slot 0) x free_seq ≡ false) w.0
          (subst (λ (x : ℕ). before_of (get_or t.dues o.slot (whole 0)) (get_or t.seqs o.slot 0) (get_or t.dues root (whole 0)) x ≡ false) w.1 (least_key o.slot o.low)))
      go o (inr w) = omega (arith, w.1, k.next_in)

  -- and so it was used
  root_used : root < q.opened
  root_used = ⊎_elim (λ (h : root < q.opened). h) (λ (h : q.opened ≤ root). absurd (omega (arith, root_live, k.unused root h root_below))) (lt_cases root q.opened)

  root_in : Mem (row_of q.width t root) (c ∷ l)
  root_in = perm_mem _ (perm_sym perm) (view_mem (row_of q.width t) q.leaves root root_below root_live)

  pub number_dues : NumberDues (c ∷ l)
  number_dues x h = let o = place x h in rw o.is (nums t q p k o.slot o.low)

  -- the least copy is the root's
  pub root_least : least c l ≡ row_of q.width t root
  unfolding less_of
  root_least = go (place (least c l) (least_mem c l))
    where
      go : Place (row_of q.width t) q.leaves (least c l) → least c l ≡ row_of q.width t root
      go o = o.is ∙ ap (row_of q.width t) (k.uniq root o.slot root_below o.low root_live
          (before_same _ _ _ _ (least_key o.slot o.low)
          (subst (λ (x : Copy). before_of (get_or t.dues root (whole 0)) (get_or t.seqs root 0) x.due x.seq ≡ false) o.is (least_le c l number_dues (row_of q.width t root) root_in))))

  abbrev t'' : Tables
  t'' = tables (carried_of (set t.dues root free_due) (set t.seqs root free_seq) q.leaves (q.leaves + root) t.win (q.leaves + root) root) (set t.free (q.opened - q.held) root) (set t.dues root free_due) (set t.seqs root free_seq)
      t.arrivals t.routes t.copy_ids t.lengths t.store

  gone_seq : get_or t''.seqs root 0 ≡ free_seq
  gone_seq = seq_here t q p k root free_due free_seq root_below num_inf

  else_seq : (x : ℕ) → x ≢ root → get_or t''.seqs x 0 ≡ get_or t.seqs x 0
  else_seq = seq_there t q p k root free_due free_seq root_below num_inf

  left_slots : (x : ℕ) → x < q.leaves → Slot t'' q.next_seq x
  left_slots x h = ⊎_elim
      (λ (e : x ≡ root). inl (rw (e, due_here t q p k root free_due free_seq root_below num_inf), rw (e, gone_seq)))
      (λ (e : x ≢ root). rw (due_there t q p k root free_due free_seq root_below num_inf x e, else_seq x e) (k.slots x h))
      (eq_cases x root)

  in_use : (x : ℕ) → get_or t''.seqs x 0 < seq_limit → x ≢ root
  in_use x h e = let z : free_seq < seq_limit = rw (e, gone_seq) at h in omega arith

  left_uniq : (x y : ℕ) → x < q.leaves → y < q.leaves → get_or t''.seqs x 0 < seq_limit → get_or t''.seqs y 0 ≡ get_or t''.seqs x 0 → y ≡ x
  left_uniq x y hx hy h e =
      let a = in_use x h in
      let b = in_use y (rw e h) in
      k.uniq x y hx hy (rw (else_seq x a) at h) (sym (else_seq y b) ∙ e ∙ else_seq x a)

  free_top : get_or t''.free (q.opened - q.held) 0 ≡ root
  free_top = get_or-set_same t.free (q.opened - q.held) root 0 (omega (arith, k.long.free, some_held, k.held_in, k.opened_in, k.leaves_in))

  free_rest : (j : ℕ) → j ≢ q.opened - q.held → get_or t''.free j 0 ≡ get_or t.free j 0
  free_rest j h = get_or-set_other t.free (q.opened - q.held) j root 0 h

  -- an entry below the new number of free slots is the new one, or an old one
  entry : (j : ℕ) → j < q.opened - (q.held - 1) → j ≢ q.opened - q.held → j < q.opened - q.held
  entry j h e = omega (arith, some_held, k.held_in)

  not_root : (j : ℕ) → j < q.opened - q.held → get_or t.free j 0 ≢ root
  not_root j h e = let z : seq_limit ≤ get_or t.seqs root 0 = rw e at (k.seqs_free j h) in omega (arith, root_live)

  left_open_low : (j : ℕ) → j < q.opened - (q.held - 1) → get_or t''.free j 0 < q.opened
  left_open_low j h = ⊎_elim (λ (e : j ≡ q.opened - q.held). rw (e, free_top) root_used) (λ (e : j ≢ q.opened - q.held). rw (free_rest j e) (k.free_low j (entry j h e))) (eq_cases j (q.opened - q.held))

  left_open_dead : (j : ℕ) → j < q.opened - (q.held - 1) → seq_limit ≤ get_or t''.seqs (get_or t''.free j 0) 0
  left_open_dead j h = ⊎_elim
      (λ (e : j ≡ q.opened - q.held). rw (e, free_top, gone_seq) (omega arith))
      (λ (e : j ≢ q.opened - q.held). rw (free_rest j e, else_seq (get_or t.free j 0) (not_root j (entry j h e))) (k.seqs_free j (entry j h e)))
      (eq_cases j (q.opened - q.held))

  left_apart : (i j : ℕ) → i < q.opened - (q.held - 1) → j < q.opened - (q.held - 1) → get_or t''.free i 0 ≡ get_or t''.free j 0 → i ≡ j
  left_apart i j hi hj e = go (eq_cases i (q.opened - q.held)) (eq_cases j (q.opened - q.held))
    where
      go : (i ≡ q.opened - q.held) ⊎ (i ≢ q.opened - q.held) → (j ≡ q.opened - q.held) ⊎ (j ≢ q.opened - q.held) → i ≡ j
      go (inl a) (inl b) = a ∙ sym b
      go (inl a) (inr b) = absurd (not_root j (entry j hj b) (sym (free_rest j b) ∙ sym e ∙ ap (λ (z : ℕ). get_or t''.free z 0) a ∙ free_top))
      go (inr a) (inl b) = absurd (not_root i (entry i hi a) (sym (free_rest i a) ∙ e ∙ ap (λ (z : ℕ). get_or t''.free z 0) b ∙ free_top))
      go (inr a) (inr b) = k.apart i j (entry i hi a) (entry j hj b) (sym (free_rest i a) ∙ e ∙ free_rest j b)

  left_rows : (x : ℕ) → x ≢ root → row_of q.width t'' x ≡ row_of q.width t x
  left_rows x h = rw (due_there t q p k root free_due free_seq root_below num_inf x h, else_seq x h)

  left_same : Perm (without (get_or t.seqs root 0) p.held) (view (row_of q.width t'') q.leaves)
  left_same = rw (view_pop (row_of q.width t) (row_of q.width t'') root left_rows root_live (rw gone_seq (omega arith)) q.leaves
      (λ (x : ℕ) (h : x < q.leaves) (u : get_or t.seqs x 0 < seq_limit) (e : get_or t.seqs x 0 ≡ get_or t.seqs root 0). k.uniq root x root_below h root_live e)) (perm_without _ k.same)

  left_count : q.held - 1 ≡ length (without (get_or t.seqs root 0) p.held)
  left_count =
      let a = perm_length left_same in
      let b = perm_length (view_push (row_of q.width t'') (row_of q.width t) root (λ (x : ℕ) (h : x ≢ root). sym (left_rows x h)) (rw gone_seq (omega arith)) root_live q.leaves root_below) in
      let d = perm_length k.same in
      omega (arith, a, b, d, k.count)

  left_keeps : Keeps t'' (one_less q) (plain p.cap p.width (without (get_or t.seqs root 0) p.held) p.next_seq)
  left_keeps = record {
    pos = k.pos;
    small = k.small;
    wide = k.wide;
    long = record {
      win = rw carried_length k.long.win;
      free = rw length-set k.long.free;
      dues = rw length-set k.long.dues;
      seqs = rw length-set k.long.seqs;
      arrivals = k.long.arrivals;
      routes = k.long.routes;
      copy_ids = k.long.copy_ids;
      lengths = k.long.lengths;
      store = k.long.store;
    };
    next_in = k.next_in;
    held_in = omega (arith, k.held_in);
    opened_in = k.opened_in;
    leaves_in = k.leaves_in;
    good = set_good t q p k root free_due free_seq root_below num_inf;
    slots = left_slots;
    unused = λ (x : ℕ) (h : q.opened ≤ x) (l : x < q.leaves). rw (else_seq x (λ (e : x ≡ root). omega (arith, root_used))) (k.unused x h l);
    uniq = left_uniq;
    free_low = left_open_low;
    seqs_free = left_open_dead;
    apart = left_apart;
    count = left_count;
    same_next = k.same_next;
    same_cap = k.same_cap;
    same_width = k.same_width;
    same = left_same;
  }

  -- the tables that a release leaves
  pub release_keeps : Keeps (joined (leave_of root (tree_of q.leaves t)) (set t.free (q.opened - q.held) root) (rows_of t)) (one_less q) (plain p.cap p.width (without (get_or t.seqs root 0) p.held) p.next_seq)
  unfolding freed_of
  release_keeps = subst (λ (g : Tree). Keeps (joined g (set t.free (q.opened - q.held) root) (rows_of t)) (one_less q) (plain p.cap p.width (without (get_or t.seqs root 0) p.held) p.next_seq))
      (sym (leave_is root (tree_of q.leaves t) (omega (arith, k.leaves_in, k.small)) root_below)) left_keeps
