-- A chunk that is shown is cut, and what was used of it is gone from the reader.
use Rattle.std.proofs.Common.{◌≢◌, [], sym, subst, ◌∙◌, eqb-true}
use Rattle.std.proofs.lemmas.List.Elements.{All-nil}
use Rattle.std.proofs.KnownBytes.{Consumes-nil}
use Rattle.std.proofs.BufReadLemmas.{Consumes_shown}
use Rattle.std.specs.Io.BufRead.{FillKeeps}
use Rattle.script.specs.Lines.{known_of, nothing_known}
use Rattle.script.proofs.Cutting.{cut_takes, with_none}
use Rattle.script.proofs.Ending.{step_more, step_feed, step_end}
use Rattle.script.proofs.lines.next_kept_line.Goals as goal

pub loop-init : goal.loop-init
loop-init g c = ([], Consumes-nil _, All-nil (λ x. x ≢ 10), c.clear.ensures ∙ sym (with_none nothing_known))

pub returns-then-is_empty : goal.returns-then-is_empty
returns-then-is_empty g c =
    let (done, read, all, known) = c.loop.invariant in
    let rested = c.fill_buf.follows.lender-at-none in
    let filled = subst (FillKeeps _ (g.R.Read.remaining rested) (g.R.BufRead.consumable_len rested)) c.in_ok-chunk.was c.fill_buf.follows.holds-at-none in
    let end = step_end _ _ _ (known_of c.loop.line) c.in_ok-chunk.chunk.now done c.has_begun.result read all known c.has_begun.ensures filled.0 c.in_ok-chunk.ensures.end (eqb-true _ _ (sym c.is_empty.ensures ∙ c.if-is_empty.true)) in
    record { line = end.0; rest = end.1 }

pub returns-then-cut : goal.returns-then-cut
returns-then-cut g c =
    let (done, read, all, known) = c.loop.invariant in
    let shown = c.in_ok-chunk.chunk.now in
    let cut = c.cut-cut in
    let takes = cut_takes (known_of c.loop.line) (known_of cut.new.self) shown cut.result cut.ensures in
    let rested = c.fill_buf.follows.lender-at-none in
    let filled = subst (FillKeeps _ (g.R.Read.remaining rested) (g.R.BufRead.consumable_len rested)) c.in_ok-chunk.was c.fill_buf.follows.holds-at-none in
    let moved = Consumes_shown _ _ _ _ shown cut.result.used takes.3 c.in_ok-chunk.ensures.front c.in_ok-chunk.ensures.end filled.0 filled.1 c.consume.ensures.bytes in
    let end = step_feed _ _ _ (known_of c.loop.line) (known_of cut.new.self) shown done cut.result read all known takes c.if-cut.true moved.0 in
    record { line = end.0; rest = end.1 }

pub loop-preserved : goal.loop-preserved
loop-preserved g c =
    let (done, read, all, known) = c.loop.invariant in
    let shown = c.in_ok-chunk.chunk.now in
    let cut = c.cut-cut in
    let takes = cut_takes (known_of c.loop.line) (known_of cut.new.self) shown cut.result cut.ensures in
    let rested = c.fill_buf.follows.lender-at-none in
    let filled = subst (FillKeeps _ (g.R.Read.remaining rested) (g.R.BufRead.consumable_len rested)) c.in_ok-chunk.was c.fill_buf.follows.holds-at-none in
    let moved = Consumes_shown _ _ _ _ shown cut.result.used takes.3 c.in_ok-chunk.ensures.front c.in_ok-chunk.ensures.end filled.0 filled.1 c.consume.ensures.bytes in
    step_more _ _ _ (known_of c.loop.line) (known_of cut.new.self) shown done cut.result read all known takes c.if-cut.false moved.0
