-- Field by field; the literal 0.0 is the float of the whole number 0.
use lib.Ieee.{of_bits, of_fields, of_int}
use Rattle.queue.proofs.release.queued.Goals as goal

pub returns : goal.returns
unfolding of_bits of_fields of_int
returns c = λ i. record {
  due_ms = c.due.ensures i;
  seq = c.seq.ensures i;
  arrival_ms = c.get.ensures i;
  route = c.get-2.ensures i;
  copy_id = c.get-3.ensures i;
  length = c.get-4.ensures i;
  slot = c.args.slot;
}
