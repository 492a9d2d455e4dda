-- The parts of a value that colons part.
use Rattle.std.specs.Prelude.{ℕ, cond, List, [], ◌∷◌, Option, Some, None, ◌==◌}
use Rattle.values.specs.Bytes.{colon}

-- x in front of the first part
abbrev pub onto : ℕ → List (List ℕ) → List (List ℕ)
onto x [] = (x ∷ []) ∷ []
onto x (p ∷ ps) = (x ∷ p) ∷ ps

-- the parts of s between the bytes b
abbrev pub split : ℕ → List ℕ → List (List ℕ)
split b [] = [] ∷ []
split b (x ∷ s) = cond (x == b) ([] ∷ split b s) (onto x (split b s))

-- f of the parts where they are exactly three
abbrev pub three : {A : Type 0} → (List ℕ → List ℕ → List ℕ → A) → A → List (List ℕ) → A
three f other [] = other
three f other (a ∷ []) = other
three f other (a ∷ b ∷ []) = other
three f other (a ∷ b ∷ c ∷ []) = f a b c
three f other (a ∷ b ∷ c ∷ d ∷ ps) = other

-- the three parts of a value that has so many
unfoldable pub colons_of : List ℕ → Option (List ℕ × List ℕ × List ℕ)
colons_of v = three (λ a b c. Some (a, b, c)) None (split colon v)
