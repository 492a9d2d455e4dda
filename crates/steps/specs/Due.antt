-- Steps 9 to 11 of an arrival (document 01, "Arrival engine"): what jitter and reordering add to the due, and the wait for a debt, before which nothing is due.
use Rattle.std.specs.Prelude.{Bool, cond, ℕ, Float, Option, Some, None}
use Rattle.std.specs.Float.{binary64}
use Rattle.std.specs.Float.Ieee.{add, mul, lt}
use Rattle.numbers.specs.Whole.{whole}
use Rattle.numbers.specs.Credit.{wait_of}
use Rattle.numbers.specs.Extremes.{maximum_of}
use Rattle.draws.specs.Rng.{next_f64_of}
use Rattle.draws.specs.declared.rng.Rng.{Rng}

-- the generator, and the due
unfoldable pub jittered_of : Rng → Float → Float → Rng × Float
jittered_of g due jitter =
    cond (lt (whole 0) jitter) ((next_f64_of g).0, add binary64 due (mul binary64 (next_f64_of g).1 jitter)) (g, due)

unfoldable pub reordered_of : Bool → Float → Float → Float
reordered_of hit due delay = cond hit (add binary64 due delay) due

unfoldable pub waited_of : Float → Option ℕ → Float → Float → Float
waited_of tokens None now due = due
waited_of tokens (Some bps) now due = maximum_of due (add binary64 now (wait_of tokens (whole bps)))

-- a credit below 0 is a debt
unfoldable pub owed_of : Float → Option ℕ → Float → Float → Float
owed_of tokens rate now due = cond (lt tokens (whole 0)) (waited_of tokens rate now due) due
