-- The entries before the counter are sums already, those behind it are still the target's.
use borrow.Author.Rules.{rules}
use native.Mathlib.Omega.{arith}
use mathlib.Core.Path.{◌≡◌, refl, ◌∙◌}
use lib.ListN.{length, get_or}
use Rattle.accounts.specs.Laws.Counters.{counter_at}
use Rattle.accounts.specs.Laws.Sums.{front_entry, front_step, front_end}
use Rattle.accounts.proofs.joining.joined_hist.Goals as goal
use Rattle.accounts.proofs.joining.joined_hist.Goals.{Start}

pub loop-i-init : goal.loop-i-init
loop-i-init c = (search rules, refl)

long : (c : Start) → length c.args.target ≡ 12
long c = search c.well_formed

pub overflow_add-target : goal.overflow_add-target
overflow_add-target c =
    let was : get_or c.loop-i.target c.loop-i.i 0 ≡ get_or c.args.target c.loop-i.i 0 = rw c.loop-i.invariant.1 (front_entry c.args.target c.args.hist.now c.loop-i.i (rw (long (goal.at.overflow_add-target c).Start) c.loop-i-test.true)) in
    rw was (omega (arith, counter_at c.args.target c.loop-i.i c.requires.0, counter_at c.args.hist.now c.loop-i.i c.requires.1))

pub loop-i-preserved : goal.loop-i-preserved
loop-i-preserved c =
    (search rules, rw c.loop-i.invariant.1 (front_step c.args.target c.args.hist.now c.loop-i.i (rw (long (goal.at.loop-i-preserved c).Start) c.loop-i-test.true)))

pub returns : goal.returns
returns c =
    c.loop-i.invariant.1 ∙ front_end c.args.target c.args.hist.now c.loop-i.i (rw (long (goal.at.returns c).Start) c.loop-i-test.false)
