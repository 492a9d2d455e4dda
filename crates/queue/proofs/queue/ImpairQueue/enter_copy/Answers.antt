-- The slot, the tournament and the rows by their contracts.
use Rattle.queue.specs.Calls.{entered_of, enter_copy_of}
use Rattle.queue.proofs.queue.ImpairQueue.enter_copy.Goals as goal

pub returns-then-not-fits-clause-entered : goal.returns-then-not-fits-clause-entered
unfolding enter_copy_of
returns-then-not-fits-clause-entered c = rw (← c.next_slot-slot.ensures, ← c.fits.ensures, c.if-not-fits.true)

pub returns-clause-entered : goal.returns-clause-entered
unfolding enter_copy_of entered_of
returns-clause-entered c =
    rw (← c.next_slot-slot.ensures, ← c.fits.ensures, c.if-not-fits.false, ← c.enter-leaves.ensures.made, ← c.write.ensures.written, c.one_more.ensures)
