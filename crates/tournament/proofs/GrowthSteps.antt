-- The turns of the loops by which the tree grows, over plain variables.
use Rattle.std.proofs.Common.{◌≡◌, ap, ◌∙◌, List, ℕ, zero, suc, ◌+◌, ◌-◌, ◌<◌, ◌≤◌, set, arith}
use Rattle.std.specs.Prelude.{Float}
use Rattle.tournament.specs.Nodes.{winner_of}
use Rattle.tournament.specs.Growth.{set_all, built_of}

-- one value more is stored
pub set_all_turn : {A : Type 0} (x : A) (i m : ℕ) (l : List A) → i < m → set_all x (i + 1) (m - (i + 1)) (set l i x) ≡ set_all x i (m - i) l
unfolding set_all
set_all_turn x i m l h = ap (λ (k : ℕ). set_all x i k l) (let e : suc (m - (i + 1)) ≡ m - i = omega arith in e)

pub set_all_done : {A : Type 0} (x : A) (i m : ℕ) (l : List A) → m ≤ i → set_all x i (m - i) l ≡ l
unfolding set_all
set_all_done x i m l h = ap (λ (k : ℕ). set_all x i k l) (let e : m - i ≡ 0 = omega arith in e)

-- one node more is made
pub built_turn : (dues : List Float) (seqs : List ℕ) (n k w : ℕ) (win win' last : List ℕ) → 0 < k → w ≡ winner_of win dues seqs n k → win' ≡ set win k w → built_of dues seqs n k win ≡ last → built_of dues seqs n (k - 1) win' ≡ last
unfolding built_of
built_turn dues seqs n zero w win win' last h ew e b = absurd (omega arith)
built_turn dues seqs n (suc k) w win win' last h ew e b =
    let z : suc k - 1 ≡ k = omega arith in
    ap (λ (j : ℕ). built_of dues seqs n j win') z ∙ ap (λ (x : List ℕ). built_of dues seqs n k x) (e ∙ ap (λ (x : ℕ). set win (suc k) x) ew) ∙ b

pub built_done : (dues : List Float) (seqs : List ℕ) (n k : ℕ) (win last : List ℕ) → k ≤ 0 → built_of dues seqs n k win ≡ last → win ≡ last
unfolding built_of
built_done dues seqs n zero win last h b = b
built_done dues seqs n (suc k) win last h b = absurd (omega arith)
