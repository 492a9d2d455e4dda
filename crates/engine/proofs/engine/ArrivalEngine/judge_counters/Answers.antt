-- The last test is that of the counters.
use Rattle.std.proofs.Common.{◌≡◌, Bool, true, false, sym, Result}
use Rattle.std.specs.Result.{OnOk}
use Rattle.numbers.specs.Checks.{check_of}
use Rattle.numbers.specs.declared.refusal.Refusal.{Refusal}
use Rattle.numbers.specs.declared.refusal.Refusal.TheVariants as refusal
use Rattle.engine.specs.Laws.Refusals.{Counted, counters_counted}
use Rattle.engine.specs.Refusals.{counters_pass}
use Rattle.engine.specs.declared.engine.ArrivalEngine.{ArrivalEngine}
use Rattle.engine.proofs.engine.ArrivalEngine.judge_counters.Goals as goal

checked : (e : ArrivalEngine) (counters : Bool) (r : Result (Unit {0}) Refusal) → counters ≡ counters_pass e → r ≡ check_of counters refusal.Counter → OnOk r (Counted e)
unfolding check_of
checked e true r h er = rw er (counters_counted e (sym h))
checked e false r h er = rw er tt

pub returns-clause-counted : goal.returns-clause-counted
returns-clause-counted c = checked c.args.self.now c.in_range.result c.check.result c.in_range.ensures c.check.ensures
