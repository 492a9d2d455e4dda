-- A tree that grows: the new slots have the key of a free one, and every node is good.
use Rattle.std.specs.Prelude.{◌≡◌, refl, ◌≢◌, List, ℕ, zero, suc, ◌+◌, ◌<◌, ◌≤◌, length, get_or, set, Float}
use Rattle.std.proofs.Common.{◌∙◌, ⊎_elim, arith, length-set, get_or-set_same, get_or-set_other, lt-ltb, le-ltb}
use Rattle.tournament.specs.Nodes.{less_of, winner_of}
use Rattle.tournament.specs.Growth.{set_all, built_of, Tree, grown_of, leaves_for, widened_of}
use Rattle.queue_laws.specs.Laws.Tree.{eq_cases, Good, Order, turn_here, turn_other}

pub set_all_length : {A : Type 0} (x : A) (i n : ℕ) (l : List A) → length (set_all x i n l) ≡ length l
unfolding set_all
set_all_length x i zero l = refl
set_all_length x i (suc n) l = set_all_length x (i + 1) n (set l i x) ∙ length-set l i x

-- the values before the first that is set stay
pub set_all_below : {A : Type 0} (x : A) (i n : ℕ) (l : List A) (j : ℕ) (d : A) → j < i → get_or (set_all x i n l) j d ≡ get_or l j d
unfolding set_all
set_all_below x i zero l j d h = refl
set_all_below x i (suc n) l j d h = set_all_below x (i + 1) n (set l i x) j d (omega arith) ∙ get_or-set_other l i j x d (omega arith)

-- each index in the range has the value
pub set_all_at : {A : Type 0} (x : A) (i n : ℕ) (l : List A) (j : ℕ) (d : A) → i ≤ j → j < i + n → i + n ≤ length l → get_or (set_all x i n l) j d ≡ x
unfolding set_all
set_all_at x i zero l j d h k e = absurd (omega arith)
set_all_at x i (suc n) l j d h k e = ⊎_elim
    (λ (q : j ≡ i). rw q (set_all_below x (i + 1) n (set l i x) i d (omega arith) ∙ get_or-set_same l i x d (omega arith)))
    (λ (q : j ≢ i). set_all_at x (i + 1) n (set l i x) j d (omega arith) (omega arith) (rw length-set (omega arith)))
    (eq_cases j i)

pub built_length : (dues : List Float) (seqs : List ℕ) (n k : ℕ) (win : List ℕ) → length (built_of dues seqs n k win) ≡ length win
unfolding built_of
built_length dues seqs n zero win = refl
built_length dues seqs n (suc k) win = built_length dues seqs n k _ ∙ length-set win (suc k) _

-- the nodes after k were good: with the nodes k, .., 1 made anew every node is
pub built_good : (dues : List Float) (seqs : List ℕ) (n : ℕ) (o : Order (less_of dues seqs) n) (k : ℕ) (win : List ℕ) → k < n → n ≤ length win
    → ((i : ℕ) → k < i → i < n → Good (less_of dues seqs) n win i)
    → (i : ℕ) → 0 < i → i < n → Good (less_of dues seqs) n (built_of dues seqs n k win) i
unfolding built_of
built_good dues seqs n o zero win h l g = g
built_good dues seqs n o (suc k) win h l g =
    built_good dues seqs n o k (set win (suc k) (winner_of win dues seqs n (suc k))) (omega arith) (rw length-set l)
    (λ (i : ℕ) (a : k < i) (b : i < n). ⊎_elim
    (λ (e : i ≡ suc k). rw e (turn_here dues seqs n o win (suc k) (omega arith) h l g))
    (λ (e : i ≢ suc k). turn_other (less_of dues seqs) n win (suc k) (winner_of win dues seqs n (suc k)) i e (omega arith) (g i (omega arith) b))
    (eq_cases i (suc k)))

-- a slot that has a leaf changes nothing
pub widened_same : (cap n s : ℕ) (t : Tree) → s < n → widened_of cap n s t ≡ t
unfolding widened_of
widened_same cap n s t h = rw (lt-ltb s n h)

-- a slot that has none makes the tree grow
pub widened_more : (cap n s : ℕ) (t : Tree) → n ≤ s → widened_of cap n s t ≡ grown_of n (leaves_for cap n) t.win t.dues t.seqs
unfolding widened_of
widened_more cap n s t h = rw (le-ltb s n h)
