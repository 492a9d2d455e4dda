-- A draw against a probability (document 01, "Arrival engine", steps 4, 8 and 10): without a chance to hit there is none, and the generator stays.
use Rattle.std.specs.Prelude.{Bool, false, cond, Float}
use Rattle.std.specs.Float.Ieee.{lt}
use Rattle.numbers.specs.Whole.{whole}
use Rattle.draws.specs.Rng.{next_f64_of}
use Rattle.draws.specs.declared.rng.Rng.{Rng}

-- the generator, and whether the draw was below the probability
unfoldable pub chance_of : Rng → Float → Rng × Bool
chance_of g p = cond (lt (whole 0) p) ((next_f64_of g).0, lt (next_f64_of g).1 p) (g, false)
