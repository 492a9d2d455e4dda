-- What is gathered so far, with the values that are left, is what all values give.
use Rattle.std.proofs.Common.{◌≡◌, ◌++◌}
use Rattle.args.specs.Arguments.{values_of}
use Rattle.args.specs.Left.{values_left}
use Rattle.settings.specs.Lists.{no_entries, entries_from}
use Rattle.settings.proofs.entries.entries_at.Given as goal

abbrev pub invariant-loop-value : goal.invariant-loop-value
invariant-loop-value g l =
    let from = entries_from g.E.Entry.parsed_of in
    from (no_entries g.E.Entry.empty_of) (values_of (l.prefix ++ l.name) l.text) ≡ from l.entries (values_left l.value-iterator)
