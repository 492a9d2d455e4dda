-- What refusal 29 asks of one setting of a direction.
use Rattle.std.specs.Prelude.{Bool, true, ◌&&◌, not, List, ℕ, leb, ltb, eqb, Float, take, Option, Some, None}
use Rattle.std.specs.Float.Ieee.{le}
use Rattle.std.specs.List.{list_all}
use Rattle.numbers.specs.Limits.{max_entries}
use Rattle.numbers.specs.Whole.{whole}
use Rattle.values.specs.Whole.{is_bounded}
use Rattle.settings.specs.declared.kill.TcpKill.{TcpKill}
use Rattle.settings.specs.declared.window.Window.{Window}
use Rattle.settings.specs.declared.ge.Ge.{Ge}

-- from 0 to a bound; a NaN is not
abbrev pub is_within : Float → Float → Bool
is_within bound x = le (whole 0) x && le x bound

abbrev pub is_probability : Float → Bool
is_probability x = is_within (whole 1) x

abbrev pub is_time : Float → Bool
is_time x = is_within (whole 999999999999999) x

abbrev pub is_positive : ℕ → Bool
is_positive n = not (eqb n 0) && is_bounded n

abbrev pub are_chances : Ge → Bool
are_chances g = is_probability g.p && (is_probability g.r && is_probability g.h)

abbrev pub is_ge : Option Ge → Bool
is_ge None = true
is_ge (Some g) = are_chances g

abbrev pub is_window : Window → Bool
is_window w = ltb w.start_ms w.end_ms && (is_bounded w.start_ms && is_bounded w.end_ms)

abbrev pub is_kill : TcpKill → Bool
is_kill k = is_window k.window

abbrev pub all_of : {A : Type 0} → (A → Bool) → List A → Bool
all_of is l = list_all is l

-- no more entries are counted than there can be, and each of these passes
abbrev pub is_list : {A : Type 0} → (A → Bool) → List A → ℕ → Bool
is_list is l count = leb count max_entries && all_of is (take count l)
