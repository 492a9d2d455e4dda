-- What a loop over a list asks for: one step, and the end.
use Rattle.std.specs.Prelude.{◌≡◌, ℕ, suc, ◌+◌, ◌<◌, ◌≤◌, Bool, true, false, cond, ◌||◌, List, [], ◌∷◌, length, take, drop, Some, None, ◌==◌, ◌≢◌, nat_lt, position, slice_index, refl}
use Rattle.std.specs.List.{list_any, position_or_len}
use Rattle.std.specs.Option.{option_map, unwrap_or}
use Rattle.std.proofs.lemmas.List.Recursion.{is_position_or_len}
use Rattle.std.proofs.Common.{ap, add-one, arith, drop_of_length-le, drop-cons, length-take, ltb-false, lt-ltb, sym, ◌∙◌}
use Rattle.std.proofs.Math.Dec.{leb-suc-suc}
use Rattle.std.proofs.Math.Numerals.{one-add}
use Rattle.numbers.specs.Laws.Both.{second_false}
use Rattle.values.specs.Bytes.{up_to, has, before_first, behind_first, split_once, same}

pub step : (l : List ℕ) (i : ℕ) → i < length l → drop i l ≡ slice_index l i ∷ drop (i + 1) l
step l i h = rw (add-one, drop-cons l i 0 h)

pub end : (l : List ℕ) (i : ℕ) → length l ≤ i → drop i l ≡ []
end l i h = drop_of_length-le l {i = i} h

cond_le : (t : Bool) (m n : ℕ) → m ≤ n → cond t 0 (suc m) ≤ suc n
cond_le true m n h = omega arith
cond_le false m n h = omega arith

pub up_to_le : (b : ℕ) (s : List ℕ) → up_to b s ≤ length s
up_to_le b [] = omega arith
up_to_le b (x ∷ s) = cond_le (x == b) (up_to b s) (length s) (up_to_le b s)

-- what stands before the first b is so long
pub before_length : (b : ℕ) (s : List ℕ) → length (before_first b s) ≡ up_to b s
before_length b s = omega (arith, length-take (up_to b s) s, up_to_le b s)

pub same_length : (a b : List ℕ) → (length a ≢ length b) → same a b ≡ false
same_length [] [] h = absurd (h refl)
same_length [] (y ∷ t) h = refl
same_length (x ∷ s) [] h = refl
same_length (x ∷ s) (y ∷ t) h = second_false (x == y) (same s t) (same_length s t (λ e. h (ap suc e)))

-- the place of the first b
pub up_to_is : (b : ℕ) (s : List ℕ) → up_to b s ≡ position_or_len (λ x. x == b) s
up_to_is b s = is_position_or_len (up_to b) (λ x. x == b) refl (λ x xs. rw one-add) s

-- how many bytes stand before b is its place, or else the length
pub up_to_or : (b : ℕ) (s : List ℕ) → up_to b s ≡ unwrap_or (position (λ x. x == b) s) (length s)
up_to_or b s = rw (← up_to_is b s) (at (nat_lt (up_to b s) (length s)) refl)
  where
    at : (t : Bool) → nat_lt (up_to b s) (length s) ≡ t → up_to b s ≡ unwrap_or (cond t (Some (up_to b s)) None) (length s)
    at true e = refl
    at false e = omega (arith, up_to_le b s, ltb-false (up_to b s) (length s) e)

-- what stands before and behind b is told by its place
pub split_once_is : (b : ℕ) (s : List ℕ) → split_once b s ≡ option_map (λ i. (take i s, drop (i + 1) s)) (position (λ x. x == b) s)
split_once_is b s = rw up_to_is (at (nat_lt (position_or_len (λ x. x == b) s) (length s)) (position_or_len (λ x. x == b) s))
  where
    parts : ℕ → List ℕ × List ℕ
    parts i = (take i s, drop (i + 1) s)

    at : (t : Bool) (i : ℕ) → cond t (Some (parts i)) None ≡ option_map parts (cond t (Some i) None)
    at true i = refl
    at false i = refl

-- whether there is a b
pub has_any : (b : ℕ) (s : List ℕ) → list_any (λ x. x == b) s ≡ has b s
has_any b [] = refl
has_any b (x ∷ s) = at (x == b) (has_any b s)
  where
    at : (t : Bool) → list_any (λ x. x == b) s ≡ has b s → (t || list_any (λ x. x == b) s) ≡ nat_lt (cond t 0 (suc (up_to b s))) (suc (length s))
    at true h = sym (lt-ltb 0 (suc (length s)) (omega arith))
    at false h = h ∙ sym (leb-suc-suc _ _)

-- there is a b, or there is none, as its split tells
pub split_none : (b : ℕ) (s : List ℕ) → None ≡ split_once b s → has b s ≡ false
split_none b s = at (has b s)
  where
    parts : List ℕ × List ℕ
    parts = (before_first b s, behind_first b s)

    at : (t : Bool) → None ≡ cond t (Some parts) None → t ≡ false
    at true h = cc
    at false h = refl

pub split_some : (b : ℕ) (s : List ℕ) (p : List ℕ × List ℕ) → Some p ≡ split_once b s → (has b s ≡ true) × (p.0 ≡ before_first b s) × (p.1 ≡ behind_first b s)
split_some b s p = at (has b s)
  where
    parts : List ℕ × List ℕ
    parts = (before_first b s, behind_first b s)

    at : (t : Bool) → Some p ≡ cond t (Some parts) None → (t ≡ true) × (p.0 ≡ before_first b s) × (p.1 ≡ behind_first b s)
    at true h = let e : p ≡ parts = cc in (refl, rw e, rw e)
    at false h = absurd cc
