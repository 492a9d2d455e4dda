-- By whether the first copy entered and a second one follows.
use Rattle.std.proofs.Common.{rules, ◌≡◌}
use Rattle.queue.specs.Calls.{told_by, second_of, enter_copies_of}
use Rattle.queue.proofs.queue.ImpairQueue.enter_copies.Goals as goal

pub returns-then-not-again-clause-entered : goal.returns-then-not-again-clause-entered
unfolding second_of enter_copies_of told_by
returns-then-not-again-clause-entered c =
    let told : c.map.result ≡ told_by c.enter_copy-first.result.1 c.args.self.next_seq 1 = search rules in
    rw (← c.enter_copy-first.ensures.entered, ← c.is_ok.ensures.value, c.if-not-again.true, told)

pub returns-clause-entered : goal.returns-clause-entered
unfolding second_of enter_copies_of told_by
returns-clause-entered c =
    let told : c.map-2.result ≡ told_by c.enter_copy-last.result.1 c.args.self.next_seq 2 = search rules in
    rw (← c.enter_copy-first.ensures.entered, ← c.is_ok.ensures.value, c.if-not-again.false, ← c.enter_copy-last.ensures.entered, told)
