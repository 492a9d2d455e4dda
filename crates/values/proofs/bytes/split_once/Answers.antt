-- The place that is found says what stands before and behind it.
use Rattle.std.proofs.Common.{◌+◌, ℕ, List, Some, take, ap, le_of_eq, length-drop, take_all}
use Rattle.values.specs.Laws.Scan.{split_once_is}
use Rattle.values.proofs.bytes.split_once.Goals as goal

pub returns-in_err-at : goal.returns-in_err-at
returns-in_err-at c = rw (c.from_residual.ensures, split_once_is, ← c.place_of.ensures, c.in_err-at.was)

pub returns : goal.returns
returns c = rw (split_once_is, ← c.place_of.ensures, c.in_ok-at.was) (ap (λ (l : List ℕ). Some (take c.in_ok-at.at c.args.s.now, l)) (take_all _ _ (le_of_eq (length-drop (c.in_ok-at.at + 1) c.args.s.now))))
