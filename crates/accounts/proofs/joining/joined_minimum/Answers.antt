-- Each return is what the definition chooses by the same tests.
use borrow.Author.Tests.{eq-eqb, ne_eqb}
use lib.Ieee.{of_bits, of_int}
use Rattle.accounts.specs.Latency.{joined_minimum_of}
use Rattle.accounts.proofs.joining.joined_minimum.Goals as goal

pub returns-then-l-eq0 : goal.returns-then-l-eq0
unfolding joined_minimum_of
returns-then-l-eq0 c = rw (eq-eqb c.args.l.now.count 0 c.if-l-eq0.true)

pub returns-then-target : goal.returns-then-target
unfolding joined_minimum_of of_int of_bits
returns-then-target c = rw (ne_eqb c.args.l.now.count 0 c.if-l-eq0.false, c.if-target.true)

pub returns-then-target-eq0 : goal.returns-then-target-eq0
unfolding joined_minimum_of of_int of_bits
returns-then-target-eq0 c = rw (ne_eqb c.args.l.now.count 0 c.if-l-eq0.false, c.if-target.false, eq-eqb c.args.target.now.count 0 c.if-target-eq0.true, c.minimum.ensures)

pub returns-else-target-eq0 : goal.returns-else-target-eq0
unfolding joined_minimum_of of_int of_bits
returns-else-target-eq0 c = rw (ne_eqb c.args.l.now.count 0 c.if-l-eq0.false, c.if-target.false, ne_eqb c.args.target.now.count 0 c.if-target-eq0.false)
