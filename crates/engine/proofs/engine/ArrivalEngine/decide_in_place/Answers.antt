-- The length has passed its test.
use Rattle.std.proofs.Common.{◌≡◌, refl, Bool, true, false, sym, ◌∙◌, Result, Ok}
use Rattle.numbers.specs.Checks.{check_of}
use Rattle.numbers.specs.Laws.Limits.{length_within}
use Rattle.numbers.specs.declared.refusal.Refusal.{Refusal}
use Rattle.numbers.specs.declared.refusal.Refusal.TheVariants.{Length}
use Rattle.engine.proofs.engine.ArrivalEngine.decide_in_place.Goals as goal

passed : (b : Bool) (r : Result (Unit {0}) Refusal) → r ≡ check_of b Length → r ≡ Ok tt → b ≡ true
unfolding check_of
passed true r e h = refl
passed false r e h = cc

pub decide_passed-requires-clause-length : goal.decide_passed-requires-clause-length
decide_passed-requires-clause-length c =
    length_within c.args.len (sym c.is_length.ensures ∙ passed c.is_length.result c.check-2.result c.check-2.ensures c.in_ok-check-2.was)
