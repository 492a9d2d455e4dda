-- None of the kills so far decides, so what is left of them does.
use mathlib.Core.Path.{◌≡◌}
use lib.ListN.{drop}
use Rattle.std.specs.Prelude.{None}
use Rattle.steps.specs.Gate.{kill_gate_of}
use Rattle.steps.proofs.gate.kill_gate.Given as goal

abbrev pub invariant-loop-i : goal.invariant-loop-i
invariant-loop-i l = record { undecided : l.deciding ≡ None; left : kill_gate_of l.kills l.now_ms ≡ kill_gate_of (drop l.i l.kills) l.now_ms }
