-- A blank at the end is taken away, and where the last byte is none nothing is.
use Rattle.std.proofs.Common.{◌∙◌, sym, ap}
use Rattle.values.specs.Blanks.{trim_end}
use Rattle.values.specs.Laws.Blanks.{trim_blank, trim_other}
use Rattle.values.proofs.blanks.trim_end.Goals as goal

pub loop-last-preserved : goal.loop-last-preserved
loop-last-preserved c = c.loop-last.invariant ∙ ap trim_end (c.in-Some.ensures).cases.0 ∙ trim_blank c.in-Some.rest.now c.in-Some.last.now (sym c.is_blank.ensures ∙ c.if-not-is_blank.false)

pub returns-then-not-is_blank : goal.returns-then-not-is_blank
returns-then-not-is_blank c = sym (c.loop-last.invariant ∙ rw (c.in-Some.ensures).cases.0 (trim_other c.in-Some.rest.now c.in-Some.last.now (sym c.is_blank.ensures ∙ c.if-not-is_blank.true)))
