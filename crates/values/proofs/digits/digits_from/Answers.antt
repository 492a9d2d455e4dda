-- Each digit is read on from the number so far.
use Rattle.std.proofs.Common.{◌≡◌, ◌∙◌, sym, arith, ◌+◌, drop, rules}
use Rattle.values.specs.Stages.{read_on}
use Rattle.values.specs.Whole.{digits_from}
use Rattle.values.specs.Laws.Digits.{digits_cons, digits_end}
use Rattle.values.specs.Laws.Scan.{step, end}
use Rattle.values.proofs.digits.digits_from.Goals as goal
use Rattle.values.proofs.digits.digits_from.Goals.{After-digit_from}

-- what is left is the next digit and then the others
next : (c : After-digit_from) → digits_from c.args.n c.args.s.now ≡ read_on c.digit_from.result (drop (c.loop-b.b-index + 1) c.args.s.now)
next c = c.loop-b.invariant.0 ∙ rw (step c.args.s.now c.loop-b.b-index c.loop-b-test.true, digits_cons, ← c.digit_from.ensures)

pub returns-in_err-value : goal.returns-in_err-value
returns-in_err-value c = rw (next (goal.at.returns-in_err-value c).After-digit_from, c.in_err-value.was) (search rules)

pub loop-b-preserved : goal.loop-b-preserved
loop-b-preserved c = (next (goal.at.loop-b-preserved c).After-digit_from ∙ rw c.in_ok-value.was, search rules)

pub returns : goal.returns
returns c = sym (c.loop-b.invariant.0 ∙ rw (end c.args.s.now c.loop-b.b-index (omega arith)) (digits_end _ c.loop-b.invariant.1))
