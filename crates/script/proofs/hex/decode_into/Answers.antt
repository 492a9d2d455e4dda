use Rattle.std.proofs.Common.{sym, ◌∙◌, arith}
use Rattle.std.proofs.lemmas.Grind.{common_steps}
use Rattle.script.proofs.Reading.{stores, passes, ends}
use Rattle.script.proofs.hex.decode_into.Goals as goal

pub loop-rest-preserved-then-count-text : goal.loop-rest-preserved-then-count-text
loop-rest-preserved-then-count-text c = record {
  within = grind (arith, common_steps);
  same = stores c.loop-rest.text c.loop-rest.rest.now c.args.digits.now c.loop-rest.count c.in-Some.byte c.if-count-text.true c.in-len2-up.len_at_least (sym c.in-Some.ensures) c.loop-rest.invariant.same;
}

pub loop-rest-preserved : goal.loop-rest-preserved
loop-rest-preserved c = record {
  within = c.loop-rest.invariant.within;
  same = passes c.loop-rest.text c.loop-rest.rest.now c.args.digits.now c.loop-rest.count c.in-Some.byte c.if-count-text.false c.loop-rest.invariant.within c.in-len2-up.len_at_least (sym c.in-Some.ensures) c.loop-rest.invariant.same;
}

pub returns-then-is_empty : goal.returns-then-is_empty
returns-then-is_empty c = ends c.loop-rest.text c.loop-rest.rest.now c.args.digits.now c.loop-rest.count _ (sym c.is_empty.ensures ∙ c.if-is_empty.true) c.loop-rest.invariant.within c.loop-rest.auto.text c.loop-rest.invariant.same
