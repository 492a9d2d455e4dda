-- A slot's key changes: every node is good again after the path from its leaf is made anew.
use Rattle.std.specs.Prelude.{◌≡◌, refl, ◌≢◌, Bool, true, false, ℕ, ◌+◌, ◌/◌, ◌<◌, ◌≤◌, get_or, set, Float}
use Rattle.std.proofs.Common.{sym, ◌∙◌, true≢false, arith, get_or-set_same, get_or-set_other, lt-ltb}
use Rattle.std.proofs.Math.Logic.{⊎_elim}
use Rattle.std.specs.Float.{nan, inf, fin}
use Rattle.std.specs.Float.Ieee.{lt, is_nan}
use Rattle.numbers.specs.Whole.{whole}
use Rattle.held.specs.Order.{before_of}
use Rattle.held.specs.Laws.Order.{Num, before_asym, before_self}
use Rattle.tournament.specs.Nodes.{less_of, slot_at_of}
use Rattle.tournament.specs.Paths.{carried_of, climbed_of}
use Rattle.tournament.specs.Growth.{free_due, free_seq}
use Rattle.queue.specs.Tables.{Tables}
use Rattle.queue.specs.declared.queue.ImpairQueue.{ImpairQueue}
use Rattle.queue_laws.specs.Held.{Plain}
use Rattle.queue_laws.specs.Laws.Tree.{eq_cases, Off, Good, due_order, Order, irrefl, val_leaf, carried_good, climbed_good, low_at, key_good}
use Rattle.queue_laws.specs.Laws.Keeps.{Keeps, nums}

-- a key in use is before that of a free slot
pub before_free : (d : Float) (n : ℕ) → Num d → n < free_seq → before_of d n free_due free_seq ≡ true
unfolding before_of lt is_nan
before_free nan n num h = absurd (let z : ◌≡◌ {A = ℕ} 0 1 = cc in omega arith)
before_free (inf true) n num h = refl
before_free (inf false) n num h = lt-ltb n free_seq h
before_free (fin u x e) n num h = refl

-- a test is not both true and false
pub clash : {A : Type 0} → ◌≡◌ {A = Bool} true false → A
clash e = absurd (true≢false e)

module _ (t : Tables) (q : ImpairQueue) (p : Plain) (k : Keeps t q p) (s : ℕ) (d : Float) (n : ℕ) (low : s < q.leaves) (num : Num d) where
  pub due_here : get_or (set t.dues s d) s (whole 0) ≡ d
  due_here = get_or-set_same t.dues s d (whole 0) (omega (arith, k.long.dues, k.leaves_in))

  pub seq_here : get_or (set t.seqs s n) s 0 ≡ n
  seq_here = get_or-set_same t.seqs s n 0 (omega (arith, k.long.seqs, k.leaves_in))

  pub due_there : (x : ℕ) → x ≢ s → get_or (set t.dues s d) x (whole 0) ≡ get_or t.dues x (whole 0)
  due_there x h = get_or-set_other t.dues s x d (whole 0) h

  pub seq_there : (x : ℕ) → x ≢ s → get_or (set t.seqs s n) x 0 ≡ get_or t.seqs x 0
  seq_there x h = get_or-set_other t.seqs s x n 0 h

  set_num : (x : ℕ) → x < q.leaves → Num (get_or (set t.dues s d) x (whole 0))
  set_num x h = ⊎_elim (λ (e : x ≡ s). rw (e, due_here) num) (λ (e : x ≢ s). rw (due_there x e) (nums t q p k x h)) (eq_cases x s)

  less_there : (x y : ℕ) → x ≢ s → y ≢ s → less_of (set t.dues s d) (set t.seqs s n) x y ≡ less_of t.dues t.seqs x y
  unfolding less_of
  less_there x y hx hy = rw (due_there x hx, due_there y hy, seq_there x hx, seq_there y hy)

  order : Order (less_of t.dues t.seqs) q.leaves
  order = due_order t.dues t.seqs q.leaves (nums t q p k)

  order' : Order (less_of (set t.dues s d) (set t.seqs s n)) q.leaves
  order' = due_order (set t.dues s d) (set t.seqs s n) q.leaves set_num

  leaf : s ≡ slot_at_of t.win q.leaves (q.leaves + s)
  leaf = sym (val_leaf t.win q.leaves (q.leaves + s) (omega arith) ∙ omega arith)

  off_good : (i : ℕ) → 0 < i → i < q.leaves → Off ((q.leaves + s) / 2) i → Good (less_of (set t.dues s d) (set t.seqs s n)) q.leaves t.win i
  off_good = key_good (less_of t.dues t.seqs) (less_of (set t.dues s d) (set t.seqs s n)) q.leaves s low less_there t.win k.good

  -- whatever key the slot had
  pub set_good : (i : ℕ) → 0 < i → i < q.leaves → Good (less_of (set t.dues s d) (set t.seqs s n)) q.leaves (carried_of (set t.dues s d) (set t.seqs s n) q.leaves (q.leaves + s) t.win (q.leaves + s) s) i
  set_good = carried_good (set t.dues s d) (set t.seqs s n) q.leaves order' (q.leaves + s) (q.leaves + s) s t.win (omega arith) (omega arith) (omega arith) (omega (arith, k.long.win, k.leaves_in)) leaf off_good

  -- where the slot was free, it is enough to climb while its key is the better
  module _ (due_free : get_or t.dues s (whole 0) ≡ free_due) (seq_free : get_or t.seqs s 0 ≡ free_seq) (some : n < free_seq) where
    -- its key was before no other
    was_last : (x : ℕ) → x < q.leaves → less_of t.dues t.seqs s x ≡ false
    unfolding less_of
    was_last x h = rw (due_free, seq_free) (⊎_elim
        (λ w. rw (w.0, w.1) (before_self free_due free_seq))
        (λ w. before_asym _ _ _ _ (before_free _ _ w.0 (omega (arith, w.1, k.next_in))))
        (k.slots x h))

    -- what was not before it is not before it now
    still_after : (x : ℕ) → x < q.leaves → less_of t.dues t.seqs x s ≡ false → less_of (set t.dues s d) (set t.seqs s n) x s ≡ false
    unfolding less_of
    still_after x h e = ⊎_elim
        (λ (z : x ≡ s). rw z (irrefl order' s low))
        (λ (z : x ≢ s). rw (due_there x z, seq_there x z, due_here, seq_here) (⊎_elim
        (λ w. rw (w.0, w.1) (before_asym _ _ _ _ (before_free d n num some)))
        (λ w. clash (sym (before_free _ _ w.0 (omega (arith, w.1, k.next_in))) ∙ (rw (due_free, seq_free) at e)))
        (k.slots x h)))
        (eq_cases x s)

    pub take_good : (i : ℕ) → 0 < i → i < q.leaves → Good (less_of (set t.dues s d) (set t.seqs s n)) q.leaves (climbed_of (set t.dues s d) (set t.seqs s n) q.leaves (q.leaves + s) t.win (q.leaves + s) s) i
    take_good = climbed_good (set t.dues s d) (set t.seqs s n) q.leaves order' (less_of t.dues t.seqs) order s low less_there was_last still_after (q.leaves + s) (q.leaves + s) t.win (omega arith) (omega arith) (omega arith) (omega (arith, k.long.win, k.leaves_in)) leaf
        (low_at t.dues t.seqs q.leaves order (omega arith) t.win k.good) (λ (i : ℕ) (p : 0 < i) (l : i ≤ (q.leaves + s) / 2). k.good i p (omega arith)) off_good
