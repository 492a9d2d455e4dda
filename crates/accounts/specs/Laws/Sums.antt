-- Sums of two lists, entry by entry: their length and entries, and how they are made in place from the front.
use Rattle.std.specs.Prelude.{◌≡◌, refl, List, [], ◌∷◌, ◌++◌, ℕ, zero, suc, ◌+◌, ◌≤◌, ◌<◌, length, get_or, set, take, drop}
use Rattle.std.proofs.Common.{sym, ap, ◌∙◌, append-nil, add-zero, le_of_suc-le-suc, add-one, arith, drop_of_length-le, length-take-le, take_all, take-suc, drop-cons}
use Rattle.std.proofs.Math.Seq.{append_snoc}
use Rattle.std.proofs.lemmas.List.{set_at, get_or_at}
use Rattle.accounts.specs.Latency.{sums}

pub sums_length : (xs ys : List ℕ) → length (sums xs ys) ≡ length xs
sums_length [] ys = refl
sums_length (x ∷ xs) [] = refl
sums_length (x ∷ xs) (y ∷ ys) = ap suc (sums_length xs ys)

pub sums_entry : (xs ys : List ℕ) (i : ℕ) → i < length xs → get_or (sums xs ys) i 0 ≡ get_or xs i 0 + get_or ys i 0
sums_entry [] ys i h = omega (arith, h)
sums_entry (x ∷ xs) [] i h = sym (add-zero (get_or (x ∷ xs) i 0))
sums_entry (x ∷ xs) (y ∷ ys) zero h = refl
sums_entry (x ∷ xs) (y ∷ ys) (suc i) h = sums_entry xs ys i (le_of_suc-le-suc h)

-- xs with its first i entries replaced by the sums
abbrev pub front : ℕ → List ℕ → List ℕ → List ℕ
front i xs ys = take i (sums xs ys) ++ drop i xs

module _ (xs ys : List ℕ) (i : ℕ) (h : i < length xs) where
  many : length (take i (sums xs ys)) ≡ i
  many = length-take-le i (sums xs ys) (omega (arith, sums_length xs ys))

  split : front i xs ys ≡ take i (sums xs ys) ++ get_or xs i 0 ∷ drop (suc i) xs
  split = ap (λ (t : List ℕ). take i (sums xs ys) ++ t) (drop-cons xs i 0 h)

  -- the next entry is still that of xs
  pub front_entry : get_or (front i xs ys) i 0 ≡ get_or xs i 0
  front_entry = ap (λ (t : List ℕ). get_or t i 0) split ∙ get_or_at (take i (sums xs ys)) (get_or xs i 0) (drop (suc i) xs) 0 i many

  put : (n : ℕ) → set (front i xs ys) i n ≡ take i (sums xs ys) ++ n ∷ drop (suc i) xs
  put n = ap (λ (t : List ℕ). set t i n) split ∙ set_at (take i (sums xs ys)) (get_or xs i 0) (drop (suc i) xs) n i many

  -- one entry more
  pub front_step : set (front i xs ys) i (get_or (front i xs ys) i 0 + get_or ys i 0) ≡ front (i + 1) xs ys
  front_step =
      let sum = get_or (sums xs ys) i 0 in
      ap (set (front i xs ys) i) (rw front_entry (sym (sums_entry xs ys i h)))
      ∙ put sum
      ∙ sym (append_snoc (take i (sums xs ys)) sum (drop (suc i) xs))
      ∙ rw (add-one, take-suc (sums xs ys) i 0 (omega (arith, sums_length xs ys)))

-- behind the last entry
pub front_end : (xs ys : List ℕ) (i : ℕ) → length xs ≤ i → front i xs ys ≡ sums xs ys
front_end xs ys i h = rw (drop_of_length-le xs {i = i} h, take_all i (sums xs ys) (omega (arith, sums_length xs ys))) (append-nil (sums xs ys))
