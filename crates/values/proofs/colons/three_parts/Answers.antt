-- Each colon that is found leaves one part and the text behind it.
use Rattle.values.specs.Laws.Parts.{colons_split}
use Rattle.values.specs.Laws.Scan.{has_any}
use Rattle.values.proofs.colons.three_parts.Goals as goal

pub returns-in_err-first : goal.returns-in_err-first
returns-in_err-first c = rw (c.from_residual.ensures, colons_split, ← c.in_err-first.ensures)

pub returns-in_err-second : goal.returns-in_err-second
returns-in_err-second c = rw (c.from_residual-in_err-second.ensures, colons_split, ← c.in_ok-first.ensures, ← c.in_err-second.ensures)

pub returns-then-contains : goal.returns-then-contains
returns-then-contains c = rw (colons_split, ← c.in_ok-first.ensures, ← c.in_ok-second.ensures, ← has_any, ← c.contains.ensures.value, c.if-contains.true)

pub returns : goal.returns
returns c = rw (colons_split, ← c.in_ok-first.ensures, ← c.in_ok-second.ensures, ← has_any, ← c.contains.ensures.value, c.if-contains.false)
