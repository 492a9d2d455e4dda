-- No more copies entered than the packet has.
use Rattle.std.proofs.Common.{sym, subst, ◌≤◌}
use Rattle.queue.specs.Lent.{entry_tables}
use Rattle.queue.specs.Tables.{After}
use Rattle.queue.specs.Calls.{Handed}
use Rattle.queue.specs.declared.answers.Entered.{Entered}
use Rattle.admission.specs.Admitted.{asked_of, copies_in}
use Rattle.admission.specs.Laws.Bounds.{push_within}
use Rattle.admission.proofs.decisions.follow.Goals as goal

pub tallied-requires : goal.tallied-requires
tallied-requires c =
    subst (λ (o : After (Handed Entered)). copies_in o.gives.1 ≤ asked_of c.in-Enqueue.extra_dup) (sym c.push-pushed.ensures.pushed)
    (push_within c.args.queue (entry_tables c.args.tree.now c.args.free.now c.args.rows.now) c.in-Enqueue.due_ms c.args.now_ms c.args.route 0 c.in-Enqueue.extra_dup c.args.bytes.now)
