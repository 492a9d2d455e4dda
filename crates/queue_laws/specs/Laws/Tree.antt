-- A node has the least slot of the leaves below it. A slot's new key changes only the nodes on the path from its leaf to the root, and where these are made
-- anew, every node has its least slot again. So the root has the least of all slots.
use Rattle.std.specs.Prelude.{◌≡◌, ◌≢◌, ◌⊎◌, List, Bool, cond, get_or, set, length, ltb, Float}
use Rattle.std.proofs.Math.Path.{refl}
use Rattle.std.proofs.Common.{sym, ap, ◌∙◌, subst, inl, inr, true≢false, get_or-set_same, get_or-set_other, lt-ltb, le-ltb}
use Rattle.std.proofs.Math.Logic.{⊎_elim}
use Rattle.std.proofs.Math.Bool.{true, false}
use Prim.Native.Nat.{ℕ, zero, suc, ◌+◌, ◌-◌, ◌*◌, ◌/◌, ◌<◌, ◌≤◌}
use Rattle.std.proofs.Math.Decide.{dec_lt, ℕ_discrete}
use native.Mathlib.Omega.{arith}
use Rattle.std.proofs.Math.ListN.{length-set}
use Rattle.numbers.specs.Whole.{whole}
use Rattle.held.specs.Laws.Order.{Num, before_asym, not_before_trans}
use Rattle.tournament.specs.Nodes.{less_of, slot_at_of, winner_of, sibling}
use Rattle.tournament.specs.Paths.{better_of, carried_of, climbed_of}

-- ---- two cases

pub lt_cases : (a b : ℕ) → (a < b) ⊎ (b ≤ a)
lt_cases a b = go (dec_lt a b)
  where
    go : Dec (a < b) → (a < b) ⊎ (b ≤ a)
    go (yes h) = inl h
    go (no h) = inr (omega arith)

pub eq_cases : (a b : ℕ) → (a ≡ b) ⊎ (a ≢ b)
eq_cases a b = go (ℕ_discrete a b)
  where
    go : Dec (a ≡ b) → (a ≡ b) ⊎ (a ≢ b)
    go (yes h) = inl h
    go (no h) = inr h

bool_cases : (b : Bool) → (b ≡ true) ⊎ (b ≡ false)
bool_cases true = inl refl
bool_cases false = inr refl

-- ---- the order of the slots

-- a test that orders the slots below n; two may tie
pub record Order (less : ℕ → ℕ → Bool) (n : ℕ) : Type 0 where
  pub asym : (a b : ℕ) → a < n → b < n → less a b ≡ true → less b a ≡ false
  pub tr : (a b c : ℕ) → a < n → b < n → c < n → less a b ≡ false → less b c ≡ false → less a c ≡ false

-- no slot is before itself
pub irrefl : {less : ℕ → ℕ → Bool} {n : ℕ} → Order less n → (a : ℕ) → a < n → less a a ≡ false
irrefl {less} o a h = ⊎_elim (o.asym a a h h) (λ e. e) (bool_cases (less a a))

-- the keys order the slots, where no due is a NaN
pub due_order : (dues : List Float) (seqs : List ℕ) (n : ℕ) → ((s : ℕ) → s < n → Num (get_or dues s (whole 0))) → Order (less_of dues seqs) n
unfolding less_of
due_order dues seqs n num = record {
  asym = λ (a b : ℕ) (ha : a < n) (hb : b < n). before_asym _ _ _ _;
  tr = λ (a b c : ℕ) (ha : a < n) (hb : b < n) (hc : c < n). not_before_trans _ _ _ _ _ _ (num a ha) (num b hb) (num c hc);
}

-- ---- the path from a node to the root

-- the node that is f levels above node k
unfoldable pub halves : ℕ → ℕ → ℕ
halves zero k = k
halves (suc f) k = halves f k / 2

halves_shift : (f k : ℕ) → halves f (k / 2) ≡ halves (suc f) k
unfolding halves
halves_shift zero k = refl
halves_shift (suc f) k = ap (λ (x : ℕ). x / 2) (halves_shift f k)

halves_le : (f k : ℕ) → halves f k ≤ k
unfolding halves
halves_le zero k = omega arith
halves_le (suc f) k = omega (arith, halves_le f k)

-- node i is not on the path from node k to the root
abbrev pub Off : ℕ → ℕ → Type 0
Off k i = (f : ℕ) → halves f k ≡ i → ⊥

-- node i is on the path from node x to the root
pub record Under (i x : ℕ) : Type 0 where
  pub steps : ℕ
  pub there : halves steps x ≡ i

off_self : (k i : ℕ) → Off k i → k ≢ i
unfolding halves
off_self k i o e = o 0 e

off_more : (k i : ℕ) → i ≢ k → Off (k / 2) i → Off k i
unfolding halves
off_more k i n o zero e = n (sym e)
off_more k i n o (suc f) e = o f (halves_shift f k ∙ e)

off_above : (k i : ℕ) → k < i → Off k i
off_above k i h f e = omega (arith, halves_le f k)

under_self : (x : ℕ) → Under x x
unfolding halves
under_self x = record { steps = 0; there = refl }

under_half : (c x : ℕ) → Under c x → Under (c / 2) x
unfolding halves
under_half c x u = record { steps = suc u.steps; there = ap (λ (y : ℕ). y / 2) u.there }

-- ---- the nodes' slots

pub carried_length : (dues : List Float) (seqs : List ℕ) (n f : ℕ) (win : List ℕ) (c w : ℕ) → length (carried_of dues seqs n f win c w) ≡ length win
unfolding carried_of
carried_length dues seqs n zero win c w = refl
carried_length dues seqs n (suc f) win c w = go (ltb 1 c) _ (carried_length dues seqs n f (set win (c / 2) v) (c / 2) v ∙ length-set win (c / 2) v)
  where
    v : ℕ
    v = better_of dues seqs n win c w

    go : (b : Bool) (l : List ℕ) → length l ≡ length win → length (cond b l win) ≡ length win
    go true l e = e
    go false l e = refl

pub climbed_length : (dues : List Float) (seqs : List ℕ) (n f : ℕ) (win : List ℕ) (c s : ℕ) → length (climbed_of dues seqs n f win c s) ≡ length win
unfolding climbed_of
climbed_length dues seqs n zero win c s = refl
climbed_length dues seqs n (suc f) win c s =
    go (ltb 1 c) (less_of dues seqs (slot_at_of win n (sibling c)) s) _ (climbed_length dues seqs n f (set win (c / 2) s) (c / 2) s ∙ length-set win (c / 2) s)
  where
    go : (a b : Bool) (l : List ℕ) → length l ≡ length win → length (cond a (cond b win l) win) ≡ length win
    go true true l e = refl
    go true false l e = e
    go false b l e = refl

-- the slot at an inner node is in the list
pub val_inner : (win : List ℕ) (n c : ℕ) → c < n → slot_at_of win n c ≡ get_or win c 0
unfolding slot_at_of
val_inner win n c h = simp (lt-ltb c n h)

-- the slot at a leaf is the leaf's own
pub val_leaf : (win : List ℕ) (n c : ℕ) → n ≤ c → slot_at_of win n c ≡ c - n
unfolding slot_at_of
val_leaf win n c h = simp (le-ltb c n h)

-- the slot at the node that was set, and at another
val_here : (win : List ℕ) (n k x : ℕ) → k < n → n ≤ length win → slot_at_of (set win k x) n k ≡ x
val_here win n k x h l = val_inner (set win k x) n k h ∙ get_or-set_same win k x 0 (omega arith)

val_set : (win : List ℕ) (n k c x : ℕ) → c ≢ k → slot_at_of (set win k x) n c ≡ slot_at_of win n c
unfolding slot_at_of
val_set win n k c x h = ap (λ (y : ℕ). cond (ltb c n) y (c - n)) (get_or-set_other win k c x 0 h)

module _ (less : ℕ → ℕ → Bool) (n : ℕ) where
  -- inner node i has a slot of a leaf below it, and neither child's slot is before it
  pub record Good (win : List ℕ) (i : ℕ) : Type 0 where
    pub low : get_or win i 0 < n
    pub under : Under i (get_or win i 0 + n)
    pub least : (c : ℕ) → c / 2 ≡ i → less (slot_at_of win n c) (get_or win i 0) ≡ false

  -- the same, by the slot at the node
  pub child_of : (win : List ℕ) (i c : ℕ) → i < n → Good win i → c / 2 ≡ i → less (slot_at_of win n c) (slot_at_of win n i) ≡ false
  child_of win i c h g e = rw (val_inner win n i h) (g.least c e)

  -- the slot at any node, where an inner one is good
  module _ (win : List ℕ) (c : ℕ) (pos : 0 < c) (top : c < n + n) (good : c < n → Good win c) where
    val_low : slot_at_of win n c < n
    val_low = ⊎_elim (λ h. rw (val_inner win n c h) (good h).low) (λ h. rw (val_leaf win n c h) (omega arith)) (lt_cases c n)

    val_under : Under c (slot_at_of win n c + n)
    val_under =
        ⊎_elim (λ h. rw (val_inner win n c h) (good h).under) (λ h. rw (val_leaf win n c h) (subst (λ (y : ℕ). Under c y) (omega arith) (under_self c))) (lt_cases c n)

  -- w is a slot at a child of node k, and neither child's slot is before it
  record Won (win : List ℕ) (k w : ℕ) : Type 0 where
    from : ℕ
    child : from / 2 ≡ k
    same : w ≡ slot_at_of win n from
    least : (c : ℕ) → c / 2 ≡ k → less (slot_at_of win n c) w ≡ false

  -- w is the slot at node b, which is c or its sibling
  won : (win : List ℕ) (c b w : ℕ) → 1 < c → b / 2 ≡ c / 2 → w ≡ slot_at_of win n b → less (slot_at_of win n c) w ≡ false → less (slot_at_of win n (sibling c)) w ≡ false
      → Won win (c / 2) w
  won win c b w h d e p q = record { from = b; child = d; same = e; least = each }
    where
      each : (y : ℕ) → y / 2 ≡ c / 2 → less (slot_at_of win n y) w ≡ false
      each y z = ⊎_elim (λ (u : y ≡ c). rw u p) (λ (u : y ≢ c). let v : y ≡ sibling c = omega arith in rw v q) (eq_cases y c)

  -- node k gets what won there, and is good
  turn_won : (win : List ℕ) (k w : ℕ) → 0 < k → k < n → n ≤ length win → ((i : ℕ) → k < i → i < n → Good win i) → Won win k w → Good (set win k w) k
  turn_won win k w pos low long above v =
      let e = get_or-set_same win k w 0 (omega arith) in
      let b = v.from in
      let d = v.child in
      let good : b < n → Good win b = λ (h : b < n). above b (omega arith) h in
      record {
        low = rw (e, v.same) (val_low win b (omega arith) (omega arith) good);
        under = rw (e, v.same) (rw d at (under_half b _ (val_under win b (omega arith) (omega arith) good)));
        least = λ (c : ℕ) (h : c / 2 ≡ k). rw (e, val_set win n k c w (omega arith)) (v.least c h);
      }

  -- a node stays good where another is set that is no child of it
  pub turn_other : (win : List ℕ) (k w i : ℕ) → i ≢ k → k / 2 ≢ i → Good win i → Good (set win k w) i
  turn_other win k w i ne nc g =
      let e = get_or-set_other win k i w 0 ne in
      record {
        low = rw e g.low;
        under = rw e g.under;
        least = λ (c : ℕ) (h : c / 2 ≡ i). rw (e, val_set win n k c w (λ (q : c ≡ k). nc (rw q at h))) (g.least c h);
      }

  -- each node off the path from k was good, and k gets what won there: each node off the path from k's parent is good
  turn : (win : List ℕ) (k w : ℕ) → 0 < k → k < n → n ≤ length win → ((i : ℕ) → 0 < i → i < n → Off k i → Good win i) → Won win k w
      → (i : ℕ) → 0 < i → i < n → Off (k / 2) i → Good (set win k w) i
  turn win k w pos low long good v i p l off = ⊎_elim
      (λ (q : i ≡ k). rw q (turn_won win k w pos low long (λ (j : ℕ) (a : k < j) (b : j < n). good j (omega arith) b (off_above k j a)) v))
      (λ (q : i ≢ k). turn_other win k w i q (off_self (k / 2) i off) (good i p l (off_more k i q off)))
      (eq_cases i k)

-- ---- the nodes made anew

module _ (dues : List Float) (seqs : List ℕ) (n : ℕ) (o : Order (less_of dues seqs) n) where
  abbrev Gd : List ℕ → ℕ → Type 0
  Gd win i = Good (less_of dues seqs) n win i

  better_won : (win : List ℕ) (c w : ℕ) → 1 < c → w ≡ slot_at_of win n c → slot_at_of win n c < n → slot_at_of win n (sibling c) < n
      → Won (less_of dues seqs) n win (c / 2) (better_of dues seqs n win c w)
  unfolding better_of
  better_won win c w h e la lb = go (less_of dues seqs (slot_at_of win n (sibling c)) w) refl
    where
      go : (t : Bool) → less_of dues seqs (slot_at_of win n (sibling c)) w ≡ t → Won (less_of dues seqs) n win (c / 2) (cond t (slot_at_of win n (sibling c)) w)
      go true u = won (less_of dues seqs) n win c (sibling c) _ h (omega arith) refl (o.asym _ _ lb la (rw e at u)) (irrefl o _ lb)
      go false u = won (less_of dues seqs) n win c c w h refl e (rw e (irrefl o _ la)) u

  winner_better : (win : List ℕ) (k : ℕ) → winner_of win dues seqs n k ≡ better_of dues seqs n win (2 * k) (slot_at_of win n (2 * k))
  unfolding winner_of better_of
  winner_better win k = let e : sibling (2 * k) ≡ 2 * k + 1 = omega arith in rw e

  -- each node with a greater number than k was good, and k gets the better of its children: it is good
  pub turn_here : (win : List ℕ) (k : ℕ) → 0 < k → k < n → n ≤ length win → ((i : ℕ) → k < i → i < n → Gd win i) → Gd (set win k (winner_of win dues seqs n k)) k
  turn_here win k pos low long above = turn_won (less_of dues seqs) n win k (winner_of win dues seqs n k) pos low long above winner_won
    where
      lows : (c : ℕ) → k < c → c < n + n → slot_at_of win n c < n
      lows c h t = val_low (less_of dues seqs) n win c (omega arith) t (λ (u : c < n). above c h u)

      half : 2 * k / 2 ≡ k
      half = omega arith

      winner_won : Won (less_of dues seqs) n win k (winner_of win dues seqs n k)
      winner_won =
          rw (winner_better win k) (rw half at (better_won win (2 * k) (slot_at_of win n (2 * k)) (omega arith) refl
          (lows (2 * k) (omega arith) (omega arith)) (lows (sibling (2 * k)) (omega arith) (omega arith))))

  -- each node off the path from c's parent was good: with the winner carried from c to the root every node is
  pub carried_good : (f c w : ℕ) (win : List ℕ) → c ≤ f → 0 < c → c < n + n → n ≤ length win → w ≡ slot_at_of win n c
      → ((i : ℕ) → 0 < i → i < n → Off (c / 2) i → Gd win i)
      → (i : ℕ) → 0 < i → i < n → Gd (carried_of dues seqs n f win c w) i
  unfolding carried_of
  carried_good zero c w win hf hp hc hl e g i pos low = absurd (omega arith)
  carried_good (suc f) c w win hf hp hc hl e g i pos low = ⊎_elim
      (λ (h : 1 < c).
      let v = better_of dues seqs n win c w in
      rw (lt-ltb 1 c h) (carried_good f (c / 2) v (set win (c / 2) v) (omega arith) (omega arith) (omega arith) (rw length-set hl)
      (sym (val_here win n (c / 2) v (omega arith) hl))
      (turn (less_of dues seqs) n win (c / 2) v (omega arith) (omega arith) hl g
      (better_won win c w h e (lows c (omega arith) hc) (lows (sibling c) (omega arith) (omega arith)))) i pos low))
      (λ (h : c ≤ 1). rw (le-ltb 1 c h) (g i pos low (off_above (c / 2) i (omega arith))))
      (lt_cases 1 c)
    where
      lows : (x : ℕ) → c / 2 < x → x < n + n → slot_at_of win n x < n
      lows x a b = val_low (less_of dues seqs) n win x (omega arith) b (λ (u : x < n). g x (omega arith) u (off_above (c / 2) x a))

  -- slot s, whose key was the greatest by the test K, has another now
  module _ (K : ℕ → ℕ → Bool) (o_k : Order K n) (s : ℕ) (low_s : s < n)
      (same : (x y : ℕ) → x ≢ s → y ≢ s → less_of dues seqs x y ≡ K x y)
      (great : (x : ℕ) → x < n → K s x ≡ false)
      (dead : (x : ℕ) → x < n → K x s ≡ false → less_of dues seqs x s ≡ false) where
    -- slot x is before s now: a node stays good where its slot was not after x
    module _ (win : List ℕ) (lows : (c : ℕ) → 0 < c → c < n + n → slot_at_of win n c < n) (x : ℕ) (lx : x < n) (wins : less_of dues seqs x s ≡ true) where
      ne_x : x ≢ s
      ne_x e = true≢false (sym (rw e at wins) ∙ irrefl o s low_s)

      not_s : (v : ℕ) → K x v ≡ false → v ≢ s
      not_s v e q = true≢false (sym wins ∙ dead x lx (rw q at e))

      stay : (i : ℕ) → Good K n win i → K x (get_or win i 0) ≡ false → Gd win i
      stay i g e = record { low = g.low; under = g.under; least = λ (c : ℕ) (h : c / 2 ≡ i). le (slot_at_of win n c) (g.least c h) }
        where
          le : (y : ℕ) → K y (get_or win i 0) ≡ false → less_of dues seqs y (get_or win i 0) ≡ false
          le y h = ⊎_elim
              (λ (q : y ≡ s). rw q (o.tr s x (get_or win i 0) low_s lx g.low (o.asym x s lx low_s wins) (same x (get_or win i 0) ne_x (not_s _ e) ∙ e)))
              (λ (q : y ≢ s). same y (get_or win i 0) q (not_s _ e) ∙ h)
              (eq_cases y s)

      -- so it is at each node above c, whose slot was not after x
      stop_good : (f c k : ℕ) → c ≤ f → 0 < c → c < n + n → c / 2 ≡ k → K x (slot_at_of win n c) ≡ false
          → ((i : ℕ) → 0 < i → i ≤ k → Good K n win i)
          → ((i : ℕ) → 0 < i → i < n → Off k i → Gd win i)
          → (i : ℕ) → 0 < i → i < n → Gd win i
      stop_good zero c k hf hp hc d e a b i pos low = absurd (omega arith)
      stop_good (suc f) c k hf hp hc d e a b i pos low = ⊎_elim
          (λ (h : 0 < k). stop_good f k (k / 2) (omega arith) h (omega arith) refl (up h) (λ (j : ℕ) (p : 0 < j) (l : j ≤ k / 2). a j p (omega arith)) (next h) i pos low)
          (λ (h : k ≤ 0). b i pos low (off_above k i (omega arith)))
          (lt_cases 0 k)
        where
          up : 0 < k → K x (slot_at_of win n k) ≡ false
          up h = o_k.tr x (slot_at_of win n c) (slot_at_of win n k) lx (lows c hp hc) (lows k h (omega arith)) e (child_of K n win k c (omega arith) (a k h (omega arith)) d)

          next : 0 < k → (i : ℕ) → 0 < i → i < n → Off (k / 2) i → Gd win i
          next h i pos low p = ⊎_elim
              (λ (q : i ≡ k). rw q (stay k (a k h (omega arith)) (rw (val_inner win n k (omega arith)) at (up h))))
              (λ (q : i ≢ k). b i pos low (off_more k i q p))
              (eq_cases i k)

    -- s is put at node k: every node has a slot below n, and the nodes above k are good by K as they were
    module _ (win : List ℕ) (k : ℕ) (low_k : k < n) (long : n ≤ length win) where
      set_lows : ((x : ℕ) → 0 < x → x < n + n → slot_at_of win n x < n) → (x : ℕ) → 0 < x → x < n + n → slot_at_of (set win k s) n x < n
      set_lows lows x p t = ⊎_elim (λ (q : x ≡ k). rw (q, val_here win n k s low_k long) low_s) (λ (q : x ≢ k). rw (val_set win n k x s q) (lows x p t)) (eq_cases x k)

      set_old : ((i : ℕ) → 0 < i → i ≤ k → Good K n win i) → (i : ℕ) → 0 < i → i ≤ k / 2 → Good K n (set win k s) i
      set_old a i p l =
          let g = a i p (omega arith) in
          let u = get_or-set_other win k i s 0 (omega arith) in
          record { low = rw u g.low; under = rw u g.under; least = λ (c : ℕ) (h : c / 2 ≡ i). rw u (child c g.low (g.least c h)) }
        where
          child : (y : ℕ) → get_or win i 0 < n → K (slot_at_of win n y) (get_or win i 0) ≡ false → K (slot_at_of (set win k s) n y) (get_or win i 0) ≡ false
          child y lo e = ⊎_elim (λ (q : y ≡ k). rw (q, val_here win n k s low_k long) (great _ lo)) (λ (q : y ≢ k). rw (val_set win n k y s q) e) (eq_cases y k)

    -- each node off the path from c's parent is good, and those on it were by K: with s put at each node that it wins, from c up, every node is
    pub climbed_good : (f c : ℕ) (win : List ℕ) → c ≤ f → 0 < c → c < n + n → n ≤ length win → s ≡ slot_at_of win n c
        → ((x : ℕ) → 0 < x → x < n + n → slot_at_of win n x < n)
        → ((i : ℕ) → 0 < i → i ≤ c / 2 → Good K n win i)
        → ((i : ℕ) → 0 < i → i < n → Off (c / 2) i → Gd win i)
        → (i : ℕ) → 0 < i → i < n → Gd (climbed_of dues seqs n f win c s) i
    unfolding climbed_of
    climbed_good zero c win hf hp hc hl e lows a b i pos low = absurd (omega arith)
    climbed_good (suc f) c win hf hp hc hl e lows a b i pos low = ⊎_elim
        (λ (h : 1 < c). rw (lt-ltb 1 c h) (⊎_elim
        (λ (t : less_of dues seqs y s ≡ true). rw t (stop_good win lows y (low_y h) t (sibling c) (sibling c) (c / 2)
        (omega arith) (omega arith) (omega arith) (omega arith) (irrefl o_k y (low_y h)) a b i pos low))
        (λ (t : less_of dues seqs y s ≡ false). rw t (climbed_good f (c / 2) (set win (c / 2) s) (omega arith) (omega arith) (omega arith) (rw length-set hl)
        (sym (val_here win n (c / 2) s (omega arith) hl)) (set_lows win (c / 2) (omega arith) hl lows) (set_old win (c / 2) (omega arith) hl a)
        (turn (less_of dues seqs) n win (c / 2) s (omega arith) (omega arith) hl b
        (won (less_of dues seqs) n win c c s h refl e (rw (← e) (irrefl o s low_s)) t)) i pos low))
        (bool_cases (less_of dues seqs y s))))
        (λ (h : c ≤ 1). rw (le-ltb 1 c h) (b i pos low (off_above (c / 2) i (omega arith))))
        (lt_cases 1 c)
      where
        y : ℕ
        y = slot_at_of win n (sibling c)

        low_y : 1 < c → y < n
        low_y h = lows (sibling c) (omega arith) (omega arith)

  -- a tree with a leaf, whose nodes are good
  module _ (pos : 0 < n) (win : List ℕ) (g : (i : ℕ) → 0 < i → i < n → Gd win i) where
    pub low_at : (c : ℕ) → 0 < c → c < n + n → slot_at_of win n c < n
    low_at c h t = val_low (less_of dues seqs) n win c h t (λ (u : c < n). g c h u)

    -- the root has a slot
    pub root_low : slot_at_of win n 1 < n
    root_low = low_at 1 (omega arith) (omega arith)

    -- the slot at no node is before the root's
    root_least : (f c : ℕ) → c ≤ f → 0 < c → c < n + n → less_of dues seqs (slot_at_of win n c) (slot_at_of win n 1) ≡ false
    root_least zero c h p t = absurd (omega arith)
    root_least (suc f) c h p t = ⊎_elim
        (λ (e : c ≡ 1). rw e (irrefl o _ root_low))
        (λ (e : c ≢ 1). o.tr _ _ _ (low_at c p t) (low_at (c / 2) (omega arith) (omega arith)) root_low
        (child_of (less_of dues seqs) n win (c / 2) c (omega arith) (g (c / 2) (omega arith) (omega arith)) refl)
        (root_least f (c / 2) (omega arith) (omega arith) (omega arith)))
        (eq_cases c 1)

    -- no slot is before the root's
    pub root_min : (s : ℕ) → s < n → less_of dues seqs s (slot_at_of win n 1) ≡ false
    root_min s low =
        let e : slot_at_of win n (n + s) ≡ s = val_leaf win n (n + s) (omega arith) ∙ omega arith in
        rw e at (root_least (n + s) (n + s) (omega arith) (omega arith) (omega arith))

-- slot s has another key: each node off the path from its leaf's parent stays good
module _ (K K' : ℕ → ℕ → Bool) (n s : ℕ) (low_s : s < n) (other : (x y : ℕ) → x ≢ s → y ≢ s → K' x y ≡ K x y) (win : List ℕ) where
  not_under : (i : ℕ) → i < n → Off ((n + s) / 2) i → Under i (s + n) → ⊥
  not_under i low o u = go u.steps u.there
    where
      half : (s + n) / 2 ≡ (n + s) / 2
      half = omega arith

      go : (f : ℕ) → halves f (s + n) ≡ i → ⊥
      go f e = off_more (s + n) i (omega arith) (rw half o) f e

  pub key_good : ((i : ℕ) → 0 < i → i < n → Good K n win i) → (i : ℕ) → 0 < i → i < n → Off ((n + s) / 2) i → Good K' n win i
  key_good g i pos low o = record { low = (g i pos low).low; under = (g i pos low).under; least = λ (c : ℕ) (h : c / 2 ≡ i). other _ _ (there c h) here ∙ (g i pos low).least c h }
    where
      here : get_or win i 0 ≢ s
      here e = not_under i low o (rw e at (g i pos low).under)

      there : (c : ℕ) → c / 2 ≡ i → slot_at_of win n c ≢ s
      there c h e = not_under i low o (rw (e, h) at (under_half c _ (val_under K n win c (omega arith) (omega arith) (λ (t : c < n). g c (omega arith) t))))
