-- A blank at the end that is taken away is one of those at the end.
use Rattle.std.proofs.Common.{◌≡◌, length}
use Rattle.values.specs.Blanks.{trim_end}
use Rattle.values.proofs.blanks.trim_end.Given as goal

abbrev pub invariant-loop-last : goal.invariant-loop-last
invariant-loop-last l = trim_end l.s ≡ trim_end l.left

abbrev pub decreases-loop-last : goal.decreases-loop-last
decreases-loop-last l = length l.left
