-- Calls whose packets fit slots of a width, and what a machine is made of with another width.
use Rattle.std.specs.Prelude.{List, [], ◌∷◌, ℕ, ◌≤◌, length}
use Rattle.machine.specs.Calls.{Call, arrive, release, rebind, teardown, report}
use Rattle.machine.specs.Machine.{Creation}

abbrev pub Fits : ℕ → Call → Type 0
Fits w (arrive now bytes route) = length bytes ≤ w
Fits w (release now) = Unit {0}
Fits w (rebind now) = Unit {0}
Fits w teardown = Unit {0}
Fits w report = Unit {0}

abbrev pub AllFit : ℕ → List Call → Type 0
AllFit w [] = Unit {0}
AllFit w (c ∷ cs) = Fits w c × AllFit w cs

abbrev pub of_width : Creation → ℕ → Creation
of_width made w = record { settings = made.settings; generator_seed = made.generator_seed; capacity = made.capacity; width = w }
