-- Step 6 of an arrival (document 01, "Arrival engine"), the MTU: what is longer does not pass.
use Rattle.std.specs.Prelude.{Bool, false, ℕ, ltb, Option, Some, None}

unfoldable pub exceeds_of : Option ℕ → ℕ → Bool
exceeds_of None len = false
exceeds_of (Some most) len = ltb most len
