-- A count that was judged does not overflow by the copies that a queue holds.
use Rattle.std.proofs.Common.{◌≡◌, sym, ◌∙◌, true, ℕ, ◌≤◌, arith, Ok, []}
use Rattle.numbers.specs.Laws.Limits.{counter_below}
use Rattle.numbers.specs.Limits.{max_capacity}
use Rattle.numbers.specs.Whole.{whole}
use Rattle.steps.specs.declared.decision.Decision.TheVariants.{KillRst}
use Rattle.queue.specs.Calls.{Handed, drain_of}
use Rattle.queue.specs.Tables.{tables}
use Rattle.queue.specs.declared.queue.ImpairQueue.{ImpairQueue}
use Rattle.admission.specs.Admitted.{torn_by, torn_of}
use Rattle.admission.specs.Follow.{follow_of}
use Rattle.admission.specs.Laws.Bounds.{follow_bounds}
use Rattle.numbers.specs.Checks.{first_refusal, check_of}
use Rattle.device.specs.Refusals.{call_refusal}
use Rattle.device.proofs.RefusalSteps.{no_refusal}
use Rattle.device.proofs.device.Device.teardown_in_place.Goals as goal

-- a drain gives no more copies than a reset tears
drained_within : (q : ImpairQueue) (d : Handed ℕ) (n : ℕ) → d ≡ drain_of q → d.1 ≡ Ok n → n ≤ max_capacity
unfolding follow_of torn_of torn_by
drained_within q d n ed h = (rw (← ed, h) at (follow_bounds q (tables [] [] [] [] [] [] [] [] []) KillRst (whole 0) 0 [])).torn_within

pub overflow_add-self : goal.overflow_add-self
unfolding call_refusal first_refusal check_of
overflow_add-self c =
    omega (arith, counter_below c.args.self.now.torn (no_refusal c.args.self.now true true true (sym c.judge_counters.ensures ∙ c.in_ok-judge_counters.was)).torn, drained_within _ _ _ c.drain-drained.ensures c.in-Ok.is)
