-- Which floats can be an instant: refusal 21 turns away a NaN, a set sign bit and what is above 2^53.
use Rattle.std.specs.Prelude.{Bool, false, not, ◌||◌, pos, is_nan, Float}
use Rattle.std.specs.Float.{nan, inf, fin}
use Rattle.std.specs.Float.Ieee.{lt}

-- whether the sign bit is set; a NaN here has none
abbrev pub sign_bit : Float → Bool
sign_bit nan = false
sign_bit (inf s) = s
sign_bit (fin s m e) = s

-- 2 ^ 53
abbrev pub last_instant : Float
last_instant = fin false 1 (pos 53)

unfoldable pub is_instant_of : Float → Bool
is_instant_of t = not (is_nan t || sign_bit t || lt last_instant t)
