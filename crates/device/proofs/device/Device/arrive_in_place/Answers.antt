-- The counts by their bounds, and each return by its step.
use Rattle.std.proofs.Common.{◌≡◌, sym, ◌∙◌, arith, Err}
use Rattle.std.proofs.lemmas.Grind.{common_steps}
use Rattle.device.specs.Arrive.{settled_by}
use Rattle.device.proofs.ArriveSteps.{not_refused, settled, room}
use Rattle.device.proofs.device.Device.arrive_in_place.Goals as goal

pub returns-in_err-decision-clause-arrived : goal.returns-in_err-decision-clause-arrived
returns-in_err-decision-clause-arrived c = not_refused _ _ _ _ c.args.route (sym c.judge_arrival.ensures ∙ c.in_ok-judge_arrival.was) _ _ c.decide_in_place.ensures.decided _ c.in_err-decision.was

pub returns-in_err-admitted-clause-arrived : goal.returns-in_err-admitted-clause-arrived
unfolding settled_by
returns-in_err-admitted-clause-arrived c =
    let done = settled _ _ _ _ _ (sym c.judge_arrival.ensures ∙ c.in_ok-judge_arrival.was) _ _ c.decide_in_place.ensures.decided _ c.in_ok-decision.was _ _ _ c.follow-followed.ensures.followed in
    let told : c.from_residual-in_err-admitted.result ≡ Err c.in_err-admitted.field-0.0 = grind (arith, common_steps) in
    rw told (rw c.in_err-admitted.was at done)

pub count-requires : goal.count-requires
count-requires c =
    let fits = room _ _ _ _ _ (sym c.judge_arrival.ensures ∙ c.in_ok-judge_arrival.was) _ _ c.decide_in_place.ensures.decided _ c.in_ok-decision.was _ _ _ c.follow-followed.ensures.followed _ c.in_ok-admitted.was in
    record { overflowed_bound = fits.overflows; resets_bound = fits.resets; torn_bound = fits.torn }

pub returns-clause-arrived : goal.returns-clause-arrived
unfolding settled_by
returns-clause-arrived c =
    let done = settled _ _ _ _ _ (sym c.judge_arrival.ensures ∙ c.in_ok-judge_arrival.was) _ _ c.decide_in_place.ensures.decided _ c.in_ok-decision.was _ _ _ c.follow-followed.ensures.followed in
    rw c.count.ensures (rw c.in_ok-admitted.was at done)
