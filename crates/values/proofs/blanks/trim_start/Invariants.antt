-- A blank that is passed is one of those in front.
use Rattle.std.proofs.Common.{◌≡◌, length, drop}
use Rattle.values.specs.Blanks.{blanks}
use Rattle.values.proofs.blanks.trim_start.Given as goal

abbrev pub invariant-loop-first : goal.invariant-loop-first
invariant-loop-first l = drop (blanks l.s) l.s ≡ drop (blanks l.left) l.left

abbrev pub decreases-loop-first : goal.decreases-loop-first
decreases-loop-first l = length l.left
