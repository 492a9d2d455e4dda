-- The entries before the counter are sums already, those behind it are still the target's.
use mathlib.Core.Path.{◌≡◌}
use Prim.Native.Nat.{◌-◌, ◌≤◌}
use Rattle.accounts.specs.Laws.Sums.{front}
use Rattle.accounts.proofs.joining.joined_hist.Given as goal

abbrev pub invariant-loop-i : goal.invariant-loop-i
invariant-loop-i l = (l.i ≤ 12) × (l.target ≡ front l.i l.initial.target l.hist)

abbrev pub decreases-loop-i : goal.decreases-loop-i
decreases-loop-i l = 12 - l.i
