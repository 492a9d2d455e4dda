-- The `--` pairs at the front of a key.
use Rattle.std.specs.Prelude.{◌≡◌, refl, Bool, true, false, ◌&&◌, cond, List, [], ◌∷◌, ℕ, suc, ◌+◌, ◌<◌, ◌≤◌, eqb, length, get_or, take, drop}
use Rattle.std.specs.Cmp.Lexicographic.{pointwise}
use Rattle.std.proofs.Common.{ap, ◌∙◌, arith}
use Rattle.std.proofs.lemmas.Bool.Decides.{nat_tests}
use Rattle.values.specs.Bytes.{dash}
use Rattle.values.specs.Laws.Scan.{step}
use Rattle.args.specs.Arguments.{dashes, stripped, dashed}

two_le : (t : Bool) (m n : ℕ) → m ≤ n → cond t (suc (suc m)) 0 ≤ suc (suc n)
two_le true m n h = omega arith
two_le false m n h = omega arith

-- no more bytes are stripped than there are
pub dashes_le : (l : List ℕ) → dashes l ≤ length l
dashes_le [] = omega arith
dashes_le (x ∷ []) = omega arith
dashes_le (x ∷ y ∷ l) = two_le (eqb x dash && eqb y dash) (dashes l) (length l) (dashes_le l)

-- a single byte is no pair
pub dashes_short : (l : List ℕ) → length l ≤ 1 → dashes l ≡ 0
dashes_short [] h = refl
dashes_short (x ∷ []) h = refl
dashes_short (x ∷ y ∷ l) h = absurd (omega arith)

-- the next two bytes, and those behind them
pub step_2 : (l : List ℕ) (i : ℕ) → i + 1 < length l → drop i l ≡ get_or l i 0 ∷ get_or l (i + 1) 0 ∷ drop (i + 2) l
step_2 l i h =
    let e : i + 1 + 1 ≡ i + 2 = omega arith in
    step l i (omega arith) ∙ ap (λ (t : List ℕ). get_or l i 0 ∷ t) (step l (i + 1) h ∙ ap (λ (j : ℕ). get_or l (i + 1) 0 ∷ drop j l) e)

-- a pair at the front is stripped
pub stripped_pair : (l : List ℕ) → pointwise eqb (take 2 l) (dash ∷ dash ∷ []) ≡ true → stripped l ≡ stripped (drop 2 l)
stripped_pair [] h = absurd cc
stripped_pair (x ∷ []) h = go (eqb x dash) h
  where
    go : (t : Bool) → (t && false) ≡ true → stripped (x ∷ []) ≡ stripped []
    go true h = absurd cc
    go false h = absurd cc
stripped_pair (x ∷ y ∷ l) h = go (eqb x dash) (eqb y dash) h
  where
    go : (t u : Bool) → (t && (u && true)) ≡ true → drop (cond (t && u) (suc (suc (dashes l))) 0) (x ∷ y ∷ l) ≡ stripped l
    go true true h = refl
    go true false h = absurd cc
    go false u h = absurd cc

turned : (x y : ℕ) → eqb x y ≡ eqb y x
turned x y = grind (arith, nat_tests)

-- an argument starts with a pair, or it does not
pub dashed_is : (a : List ℕ) → dashed a ≡ pointwise eqb (dash ∷ dash ∷ []) (take 2 a)
dashed_is [] = refl
dashed_is (x ∷ []) = rw (turned x dash)
dashed_is (x ∷ y ∷ l) = rw (turned x dash, turned y dash)
