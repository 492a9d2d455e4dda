-- Maximum and minimum, with NaN and the two zeros as document 01 has them ("Arrival engine").
use Rattle.std.specs.Prelude.{Bool, cond, is_nan, Float}
use Rattle.std.specs.Float.Ieee.{lt}

-- what is no NaN, and of two numbers the second where the test says so, else the first
unfoldable pub chosen_of : Bool → Float → Float → Float
chosen_of second x y = cond (is_nan x) y (cond (is_nan y) x (cond second y x))

abbrev pub maximum_of : Float → Float → Float
maximum_of x y = chosen_of (lt x y) x y

abbrev pub minimum_of : Float → Float → Float
minimum_of x y = chosen_of (lt y x) x y
