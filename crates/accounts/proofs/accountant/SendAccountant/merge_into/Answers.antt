-- Each return is what the definition gives by the same test of both records.
use Rattle.std.proofs.Common.{sym, ◌∙◌}
use Rattle.std.proofs.Math.Bool.{and-eq-true_iff}
use Rattle.accounts.specs.Calls.{merge_into_of}
use Rattle.accounts.specs.Laws.Small.{small_sends, small_stats}
use Rattle.accounts.proofs.accountant.SendAccountant.merge_into.Goals as goal
use Rattle.accounts.proofs.accountant.SendAccountant.merge_into.Goals.{Else-not-counted}

pub returns-then-not-counted : goal.returns-then-not-counted
unfolding merge_into_of
returns-then-not-counted c = rw (← c.in_range.ensures, ← c.in_range-2.ensures, c.if-not-counted.true)

pub merged-requires : goal.merged-requires
merged-requires c =
    let both = (and-eq-true_iff c.in_range.result c.in_range-2.result).0 c.if-not-counted.false in
    record { sends = small_sends c.args.self (sym c.in_range.ensures ∙ both.0); stats = small_stats c.args.st (sym c.in_range-2.ensures ∙ both.1) }

pub returns : goal.returns
unfolding merge_into_of
returns c = rw (← c.in_range.ensures, ← c.in_range-2.ensures, c.if-not-counted.false, c.merged.ensures)
