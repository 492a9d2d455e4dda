-- A release that is not refused has passed what the parts ask.
use Rattle.std.proofs.Common.{sym, ◌∙◌, arith}
use Rattle.queue.proofs.RefusalSteps.{release_passed}
use Rattle.queue.proofs.queue.ImpairQueue.release.Goals as goal

pub release_slot-requires : goal.release_slot-requires
release_slot-requires c = (omega (arith, c.if-self-eq0.false), (release_passed c.args.self _ _ (sym c.judge_release.ensures ∙ c.in_default.is)).held_within)
