-- Which decisions are drops: a reset is none.
use Rattle.std.specs.Prelude.{Bool, true, false}
use Rattle.steps.specs.declared.decision.Decision.{Decision}
use Rattle.steps.specs.declared.decision.Decision.TheVariants.{DropRandom, DropGe, DropMtu, DropBlackout, DropKillHold, Enqueue, KillRst}

unfoldable pub is_drop_of : Decision → Bool
is_drop_of DropRandom = true
is_drop_of DropGe = true
is_drop_of DropMtu = true
is_drop_of DropBlackout = true
is_drop_of DropKillHold = true
is_drop_of (Enqueue due duplicate) = false
is_drop_of KillRst = false
