-- What holds of every list of calls on a fresh machine, whatever it is made of, of every refused call and report, and of the dues that are held.
use Rattle.std.specs.Prelude.{◌≡◌, refl, true, List, [], ◌∷◌, ℕ, ◌≤◌, length}
use Rattle.std.proofs.Common.{sym, ap, ◌∙◌, ⊎_elim, arith}
use Rattle.std.specs.Float.Ieee.{le}
use Rattle.std.specs.Float.Ieee.Bits.{is_true}
use Rattle.numbers.specs.Laws.Kinds.{number_is, plus_number}
use Rattle.numbers.specs.Limits.{max_width}
use Rattle.judgement.specs.Settings.{is_settings_of}
use Rattle.held.specs.Copies.{Copy, Mem, NumberDues}
use Rattle.machine.specs.Machine.{Machine, Creation, fresh_machine}
use Rattle.machine.specs.Calls.{Call, report, Binary64, Refusal, In, refused}
use Rattle.machine.specs.Steps.{step, answers, after_all}
use Rattle.machine.specs.Tally.{nothing, total, came_in, accounted_for, EachTells}
use Rattle.machine.specs.Arrivals.{EachOwn}
use Rattle.machine.specs.Bare.{bare_calls, bare_answers}
use Rattle.machine.specs.Widths.{AllFit, of_width}
use Rattle.machine.proofs.Laws.Held.{fresh_order, fresh_empty}
use Rattle.machine.proofs.Laws.Count.{all_balance}
use Rattle.machine.proofs.Laws.Own.{fresh_known, all_own}
use Rattle.machine.proofs.Laws.Bare.{bare_answers_lem, fresh_bare}
use Rattle.machine.proofs.Laws.Widths.{all_alike}
use Rattle.machine.proofs.Laws.Refused.{step_refuses, report_changes_nothing}
use Rattle.machine.proofs.Laws.Reports.{fresh_counted, all_tell}
use Rattle.machine.proofs.Laws.Numbers.{all_sound, fresh_machine_sound}

-- what came in, received and duplicates, is random, GE, MTU, blackout, reset, overflow, released, torn and held
pub count : (made : Creation) (cs : List Call)
    → let m = fresh_machine made in came_in (total (answers m cs)) ≡ accounted_for (total (answers m cs)) (length (after_all m cs).held)
count made cs = omega (arith, fresh_empty made, all_balance (fresh_machine made) (fresh_order made) cs)

-- every released copy has instant, bytes and route of its arrival, the arrive call in which a copy entered with its seq, and the length of those bytes
pub each_own : (made : Creation) (cs : List Call) → EachOwn [] cs (answers (fresh_machine made) cs)
each_own made cs = all_own [] (fresh_machine made) (fresh_known made) cs

-- bytes and routes decide nothing: the calls without them are answered alike, but for the bytes and routes that are handed out
pub bytes_decide_nothing : (made : Creation) (cs : List Call)
    → let m = fresh_machine made in bare_answers (answers m cs) ≡ answers m (bare_calls cs)
bytes_decide_nothing made cs = bare_answers_lem (fresh_machine made) cs ∙ ap (λ (m : Machine). answers m (bare_calls cs)) (fresh_bare made)

-- so two lists of calls that are alike in kinds, order, times and lengths are answered alike
pub alike : (made : Creation) (cs ds : List Call)
    → let m = fresh_machine made in bare_calls cs ≡ bare_calls ds → bare_answers (answers m cs) ≡ bare_answers (answers m ds)
alike made cs ds e =
    bytes_decide_nothing made cs ∙ ap (answers (fresh_machine made)) e ∙ sym (bytes_decide_nothing made ds)

-- the width decides nothing where each packet fits: machines that differ in it alone answer alike
pub width_decides_nothing : (made : Creation) (w : ℕ) (cs : List Call) → AllFit made.width cs → AllFit w cs → answers (fresh_machine (of_width made w)) cs ≡ answers (fresh_machine made) cs
unfolding fresh_machine
width_decides_nothing made w cs own other = all_alike w made.width (fresh_machine made) refl cs own other

-- a report says what is counted from the answers before it, and its own numbers come out
pub each_report : (made : Creation) (cs : List Call) → EachTells nothing (answers (fresh_machine made) cs)
each_report made cs =
    all_tell nothing (fresh_machine made) (fresh_order made) (fresh_counted made) (omega (arith, fresh_empty made)) cs

-- no other number refuses a call
pub only_three : (m : Machine) (c : Call) (k : ℕ) → (step m c).answer ≡ refused k → Refusal k
only_three m c k e = (step_refuses m c k e).one_of

-- so does a list of calls: each refusal among its answers is 21, 22 or 25
pub only_three_along : (m : Machine) (cs : List Call) (k : ℕ) → In (refused k) (answers m cs) → Refusal k
unfolding answers
only_three_along m [] k i = absurd i
only_three_along m (c ∷ cs) k i = ⊎_elim (λ (e : refused k ≡ (step m c).answer). only_three m c k (sym e)) (λ (j : In (refused k) (answers (step m c).then cs)). only_three_along (step m c).then cs k j) i

-- a refused call leaves the machine as it was
pub refused_stays : (m : Machine) (c : Call) (k : ℕ) → (step m c).answer ≡ refused k → (step m c).then ≡ m
refused_stays m c k e = (step_refuses m c k e).stays

-- a report leaves the machine as it was
pub report_stays : (m : Machine) → (step m report).then ≡ m
report_stays m = report_changes_nothing m

-- with settings that 29 lets through and a width of at most 9,216 no held copy has a due that is a NaN
pub held_numbers : (made : Creation) → is_settings_of made.settings ≡ true → made.width ≤ max_width → (cs : List Call) → Binary64 cs → NumberDues (after_all (fresh_machine made) cs).held
held_numbers made settings narrow cs fit c k = number_is (plus_number ((all_sound (fresh_machine made) (fresh_machine_sound made settings narrow) cs fit).dues c k).clear)

-- or one before its arrival
pub held_later : (made : Creation) → is_settings_of made.settings ≡ true → made.width ≤ max_width → (cs : List Call) → Binary64 cs
    → (c : Copy) → Mem c (after_all (fresh_machine made) cs).held → le c.arrival c.due ≡ true
held_later made settings narrow cs fit c k = is_true _ ((all_sound (fresh_machine made) (fresh_machine_sound made settings narrow) cs fit).dues c k).later
