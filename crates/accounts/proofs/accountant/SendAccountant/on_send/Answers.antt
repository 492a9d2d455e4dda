-- Each return is what the definition gives by the same two tests, and no counter that passes them overflows.
use native.Mathlib.Omega.{arith}
use mathlib.Core.Path.{◌≡◌, sym, ◌∙◌}
use mathlib.Core.Bool.{true}
use Rattle.numbers.specs.Limits.{is_length_of}
use Rattle.numbers.specs.Laws.Limits.{length_within}
use Rattle.accounts.specs.Accountant.{sent_of}
use Rattle.accounts.specs.Counters.{are_counters, accountant_counters}
use Rattle.accounts.specs.Calls.{on_send_of}
use Rattle.accounts.specs.Laws.Small.{SmallSends, small_sends}
use Rattle.accounts.proofs.accountant.SendAccountant.on_send.Goals as goal
use Rattle.accounts.proofs.accountant.SendAccountant.on_send.Goals.{Else-not-in_range}

pub returns-then-not-is_length : goal.returns-then-not-is_length
unfolding on_send_of
returns-then-not-is_length c = rw (← c.is_length.ensures, c.if-not-is_length.true)

pub returns-then-not-in_range : goal.returns-then-not-in_range
unfolding on_send_of
returns-then-not-in_range c =
    rw (← c.is_length.ensures, c.if-not-is_length.false, ← c.in_range.ensures, c.if-not-in_range.true)

taken : (c : Else-not-in_range) → is_length_of c.args.len ≡ true
taken c = sym c.is_length.ensures ∙ c.if-not-is_length.false

counted : (c : Else-not-in_range) → are_counters (accountant_counters c.args.self) ≡ true
counted c = sym c.in_range.ensures ∙ c.if-not-in_range.false

small : (c : Else-not-in_range) → SmallSends c.args.self
small c = small_sends c.args.self (counted c)

pub overflow_add-self : goal.overflow_add-self
overflow_add-self c = omega (arith, small (goal.at.overflow_add-self c).Else-not-in_range)

pub overflow_add-self-2 : goal.overflow_add-self-2
overflow_add-self-2 c = omega (arith, small (goal.at.overflow_add-self-2 c).Else-not-in_range, length_within c.args.len (taken (goal.at.overflow_add-self-2 c).Else-not-in_range))

pub record-requires : goal.record-requires
record-requires c = (small (goal.at.record-requires c).Else-not-in_range).latencies

pub returns : goal.returns
unfolding on_send_of sent_of
returns c = rw (taken (goal.at.returns c).Else-not-in_range, counted (goal.at.returns c).Else-not-in_range, c.record.ensures)
