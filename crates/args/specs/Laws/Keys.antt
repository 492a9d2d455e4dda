-- A key in two pieces: it is compared piece by piece.
use Rattle.std.specs.Prelude.{◌≡◌, refl, Bool, ◌&&◌, List, [], ◌∷◌, ◌++◌, ℕ, eqb, length, take, drop}
use Rattle.std.proofs.Common.{sym, ap, ◌∙◌}
use Rattle.std.proofs.Math.Bool.{and_assoc}
use Rattle.values.specs.Bytes.{same}

-- a key is the prefix and the name where its front is the prefix and its tail the name
pub same_append : (k p n : List ℕ) → same k (p ++ n) ≡ (same (take (length p) k) p && same (drop (length p) k) n)
same_append k [] n = refl
same_append [] (x ∷ p) n = refl
same_append (y ∷ k) (x ∷ p) n = ap (λ (t : Bool). eqb y x && t) (same_append k p n) ∙ sym (and_assoc (eqb y x) (same (take (length p) k) p) (same (drop (length p) k) n))
