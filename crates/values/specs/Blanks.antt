-- The blanks that a window may have around its bounds (document 01, "Option text"): the space, and the bytes 9 to 13.
use Rattle.std.specs.Prelude.{ℕ, suc, Bool, true, cond, ◌&&◌, ◌||◌, List, [], ◌∷◌, drop, ◌==◌, nat_le}

abbrev pub is_blank : ℕ → Bool
is_blank b = b == 32 || (nat_le 9 b && nat_le b 13)

abbrev pub all_blank : List ℕ → Bool
all_blank [] = true
all_blank (x ∷ s) = is_blank x && all_blank s

-- how many blanks stand in front
abbrev pub blanks : List ℕ → ℕ
blanks [] = 0
blanks (x ∷ s) = cond (is_blank x) (suc (blanks s)) 0

-- without the blanks at the end
abbrev pub trim_end : List ℕ → List ℕ
trim_end [] = []
trim_end (x ∷ s) = cond (is_blank x && all_blank s) [] (x ∷ trim_end s)

-- without the blanks around
abbrev pub trimmed : List ℕ → List ℕ
trimmed s = trim_end (drop (blanks s) s)
