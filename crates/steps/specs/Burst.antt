-- Step 5 of an arrival (document 01, "Arrival engine"), burst loss: the state is drawn anew, and a bad one draws once more, for the packet. Each answer is the
-- generator, whether the state is bad, and whether the packet is lost.
use Rattle.std.specs.Prelude.{Bool, false, cond, not, Option, Some, None, Float}
use Rattle.std.specs.Float.Ieee.{lt}
use Rattle.draws.specs.Rng.{next_f64_of}
use Rattle.draws.specs.declared.rng.Rng.{Rng}
use Rattle.settings.specs.declared.ge.Ge.{Ge}

-- the second draw
unfoldable pub lost_of : Rng → Bool → Float → Rng × Bool × Bool
lost_of g bad h = cond bad ((next_f64_of g).0, bad, lt (next_f64_of g).1 h) (g, bad, false)

-- the state turns bad with the chance p, and good again with the chance r
unfoldable pub burst_loss_of : Rng → Bool → Option Ge → Rng × Bool × Bool
burst_loss_of g bad None = (g, bad, false)
burst_loss_of g bad (Some q) =
    let flip = lt (next_f64_of g).1 (cond bad q.r q.p) in
    lost_of (next_f64_of g).0 (cond flip (not bad) bad) q.h
