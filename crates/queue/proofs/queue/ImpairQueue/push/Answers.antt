-- A push that is not refused has passed what the copies ask.
use Rattle.std.proofs.Common.{sym, ◌∙◌, arith}
use Rattle.queue.proofs.RefusalSteps.{push_passed}
use Rattle.queue.proofs.queue.ImpairQueue.push.Goals as goal

pub enter_copies-requires : goal.enter_copies-requires
enter_copies-requires c =
    let passed = push_passed c.args.self _ _ _ _ (sym c.judge_push.ensures ∙ c.in_default.is) in
    (passed.state.held_within, (omega (arith, passed.state), omega (arith, passed.seq)), omega (arith, passed.fits, passed.state.width_below))
