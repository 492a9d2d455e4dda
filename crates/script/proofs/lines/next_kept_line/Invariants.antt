-- What the reader gave so far has no line feed, and is what has come of the line.
use Rattle.std.proofs.Common.{◌≡◌, ◌≢◌, ℕ, List, All}
use Rattle.std.specs.Io.KnownBytes.{Consumes}
use Rattle.script.specs.Lines.{known_of, nothing_known, with_bytes}
use Rattle.script.proofs.lines.next_kept_line.Given as goal

abbrev pub invariant-loop : goal.invariant-loop
invariant-loop g l = (given : List ℕ)
    × Consumes (g.R.Read.remaining l.initial.input) (g.R.Read.remaining l.input) given
    × All (λ x. x ≢ 10) given
    × (known_of l.line ≡ with_bytes nothing_known given)
