-- A width that was judged is small.
use Rattle.std.proofs.Common.{sym, ◌∙◌, arith}
use Rattle.numbers.specs.Laws.Limits.{width_within}
use Rattle.queue.proofs.queue.ImpairQueue.create.Goals as goal

pub overflow_cast-width : goal.overflow_cast-width
overflow_cast-width c = omega (arith, (width_within c.args.width (sym c.is_width.ensures ∙ c.if-not-is_width.false)).1)
