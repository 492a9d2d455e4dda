-- What is gathered so far, with the values that are left, is what all values give.
use Rattle.std.proofs.Common.{rules, sym, ap, ◌∙◌}
use Rattle.settings.specs.Lists.{entries_from, entries_of}
use Rattle.settings.proofs.entries.entries_at.Goals as goal

pub returns : goal.returns
unfolding entries_of
returns g c = sym (c.loop-value.invariant ∙ ap (entries_from g.E.Entry.parsed_of c.loop-value.entries) c.in-None.ensures.steps.0)

pub returns-in_err-entries : goal.returns-in_err-entries
unfolding entries_of
returns-in_err-entries g c = rw (c.loop-value.invariant ∙ ap (entries_from g.E.Entry.parsed_of c.loop-value.entries) c.in-Some.ensures.steps) (search rules)
