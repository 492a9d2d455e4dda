-- A blank at the end is trimmed, and where the last byte is none nothing is.
use Rattle.std.specs.Prelude.{◌≡◌, ℕ, Bool, true, false, cond, ◌&&◌, List, [], ◌∷◌, ◌++◌, length, take, refl}
use Rattle.std.proofs.Common.{sym, ap, ◌∙◌}
use Rattle.std.proofs.Math.Bool.{and-true, and_assoc}
use Rattle.numbers.specs.Laws.Both.{second_false}
use Rattle.values.specs.Blanks.{is_blank, all_blank, trim_end}

all_append : (s : List ℕ) (b : ℕ) (t : Bool) → is_blank b ≡ t → all_blank (s ++ (b ∷ [])) ≡ (all_blank s && t)
all_append [] b t h = rw h (and-true t)
all_append (x ∷ s) b t h = ap (λ u. is_blank x && u) (all_append s b t h) ∙ sym (and_assoc (is_blank x) (all_blank s) t)

-- what is left is the front of the list
pub trim_front : (s : List ℕ) → take (length (trim_end s)) s ≡ trim_end s
trim_front [] = refl
trim_front (x ∷ s) = front (is_blank x && all_blank s) (trim_front s)
  where
    front : (t : Bool) → take (length (trim_end s)) s ≡ trim_end s → take (length (cond t [] (x ∷ trim_end s))) (x ∷ s) ≡ cond t [] (x ∷ trim_end s)
    front true h = refl
    front false h = ap (λ (l : List ℕ). x ∷ l) h

pub trim_blank : (s : List ℕ) (b : ℕ) → is_blank b ≡ true → trim_end (s ++ (b ∷ [])) ≡ trim_end s
trim_blank [] b h = rw h
trim_blank (x ∷ s) b h = rw (all_append s b true h, and-true (all_blank s), trim_blank s b h)

pub trim_other : (s : List ℕ) (b : ℕ) → is_blank b ≡ false → trim_end (s ++ (b ∷ [])) ≡ s ++ (b ∷ [])
trim_other [] b h = rw h
trim_other (x ∷ s) b h = rw (all_append s b false h, second_false (all_blank s) false refl, second_false (is_blank x) false refl, trim_other s b h)
