-- The refusal of the engine, or else that of the queue.
use Rattle.std.proofs.Common.{◌≡◌, sym, ◌∙◌, Result, Ok, Err}
use Rattle.std.specs.Result.{result_and}
use Rattle.numbers.specs.declared.refusal.Refusal.{Refusal}
use Rattle.engine.specs.declared.engine.ArrivalEngine.{ArrivalEngine}
use Rattle.queue.specs.Calls.{Handed}
use Rattle.device.specs.Creation.{not_created, queued_by, created_by, create_of}
use Rattle.device.proofs.device.Device.create.Goals as goal

refused : (judged : Result (Unit {0}) Refusal) (e : ArrivalEngine) (opened : Handed (Unit {0})) (k : Refusal) → result_and judged opened.1 ≡ Err k → created_by judged e opened ≡ not_created k
unfolding created_by queued_by
refused (Ok u) e opened k h = rw h
refused (Err r) e opened k h = cc

pub returns-in-Err : goal.returns-in-Err
unfolding create_of
returns-in-Err c =
    rw (← c.direction_seed.ensures, ← c.new-judged.ensures, ← c.create-opened.ensures, c.idle.ensures)
    (sym (refused c.new-judged.result.1 c.new-judged.result.0 c.create-opened.result _ (sym c.and.ensures ∙ c.in-Err.is)))
