-- The digits before the point are read, and those behind it from there on.
use Rattle.std.proofs.Common.{◌≡◌, length, sym, ◌∙◌, arith}
use Rattle.std.proofs.lemmas.Grind.{common_steps}
use Rattle.values.specs.Decimal.{parse_f64_ms_of, decimal_of}
use Rattle.values.specs.Stages.{over_ten}
use Rattle.values.specs.Laws.Decimals.{decimal_read, decimal_none, decimal_long}
use Rattle.values.proofs.decimal.parse_f64_ms.Goals as goal
use Rattle.values.proofs.decimal.parse_f64_ms.Goals.{After-behind_first-fraction, After-both_read, then-count-eq0-via-then-count-eq0, then-count-eq0-via-else-count-eq0+then-count-gt-MOST_DIGITS}

-- what stands before and behind the point
parts : (c : After-behind_first-fraction) → parse_f64_ms_of c.args.v.now ≡ decimal_of c.before_first-whole.result.now c.behind_first-fraction.result.now
unfolding parse_f64_ms_of
parts c = rw (c.behind_first-fraction.ensures, c.before_first-whole.ensures, c.without_plus-digits.ensures)

pub returns-then-count-eq0 : goal.returns-then-count-eq0
returns-then-count-eq0 c =
    sym (parts (goal.at.returns-then-count-eq0 c).After-behind_first-fraction ∙ elim c.then-count-eq0.branch [ then-count-eq0-via-then-count-eq0 w ↦ decimal_none _ _ w.if-count-eq0.true | then-count-eq0-via-else-count-eq0+then-count-gt-MOST_DIGITS w ↦ decimal_long _ _ w.if-count-gt-MOST_DIGITS.true ])

-- the digits of both, over a power of ten
read : (c : After-both_read) → parse_f64_ms_of c.args.v.now ≡ over_ten c.both_read.result (length c.behind_first-fraction.result.now)
read c = parts (goal.at.After-both_read c).After-behind_first-fraction ∙ decimal_read _ _ (omega (arith, c.if-count-eq0.false)) c.if-count-gt-MOST_DIGITS.false ∙ rw c.both_read.ensures

pub returns-in_err-number : goal.returns-in_err-number
unfolding over_ten
returns-in_err-number c = let h = read (goal.at.returns-in_err-number c).After-both_read in grind (arith, common_steps)

pub returns : goal.returns
unfolding over_ten
returns c = let h = read (goal.at.returns c).After-both_read in grind (arith, common_steps)
