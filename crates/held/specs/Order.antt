-- The order in which copies leave (document 01, Queue): by due and then by seq, where −0 ties with 0.
use Rattle.std.specs.Prelude.{Bool, true, false, cond, ℕ, ltb, Float}
use Rattle.std.specs.Float.Ieee.{lt}

-- whether the key (d, s) is before (e, t)
unfoldable pub before_of : Float → ℕ → Float → ℕ → Bool
before_of d s e t = cond (lt d e) true (cond (lt e d) false (ltb s t))
