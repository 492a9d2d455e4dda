-- What it is for a call to agree with a step of the plain machine, and that every refused call does.
use Rattle.std.specs.Prelude.{◌≡◌, Bool, [], ◌∷◌, ◌≤◌, length}
use Rattle.std.proofs.Math.Path.{refl}
use Rattle.std.proofs.Common.{sym, subst, arith}
use Rattle.std.proofs.Math.Bool.{true, false}
use Rattle.numbers.specs.Checks.{check, first_failing, first_refusal, unless as unless_met}
use Rattle.numbers.specs.Laws.Both.{both_true}
use Rattle.numbers.specs.Laws.Limits.{width_within}
use Rattle.numbers.specs.Limits.{max_length, is_counter_of}
use Rattle.numbers.specs.Refusals.{number_of, refused_instant, refused_length, refused_counter}
use Rattle.numbers.specs.declared.refusal.Refusal.{Refusal}
use Rattle.numbers.specs.declared.refusal.Refusal.TheVariants as refusal
use Rattle.accounts.specs.Counters.{are_counters, accountant_counters}
use Rattle.engine.specs.Laws.Sound.{SoundEngine}
use Rattle.engine.specs.Refusals.{counters_pass}
use Rattle.queue.specs.Calls.{drain_of}
use Rattle.queue.specs.Tables.{Tables}
use Rattle.queue.specs.declared.queue.ImpairQueue.{ImpairQueue}
use Rattle.queue_laws.specs.Held.{Plain, plain, step_to as queue_step_to, drained, drain_plain}
use Rattle.queue_laws.proofs.Agree.{Agree, drain_agrees}
use Rattle.queue_laws.specs.Laws.Keeps.{Keeps}
use Rattle.queue_laws.specs.Replies.{said_by_drain}
use Rattle.machine.specs.Calls.{refused}
use Rattle.machine.specs.Machine.{Machine, in_range}
use Rattle.machine.specs.Steps.{Step, step_to, unless_refused, unless}
use Rattle.device.specs.Refusals.{device_checks, call_refusal}
use Rattle.device.specs.declared.device.Device.{Device}
use Rattle.claim.proofs.Laws.Answers.{Said}
use Rattle.claim.proofs.Laws.Matches.{AllShort, Matches}

-- the call answers as the step does, and the device and tables that it leaves match the machine that the step leaves
pub record Agrees (o : Said) (s : Step) : Type 0 where
  pub says : o.reply ≡ s.answer
  pub matches : Matches o.device o.tables s.then

-- ---- the device that matches a machine

-- the plain queue of a machine
abbrev pub queue_of : Machine → Plain
queue_of m = plain m.cap m.width m.held m.next_seq

-- the device of a machine's parts and a queue
abbrev pub device_of : Machine → ImpairQueue → Device
device_of m q = record { engine = m.engine; queue = q; accounts = m.accounts; torn = m.torn }

is_device : (v : Device) (t : Tables) (m : Machine) → Matches v t m → v ≡ device_of m v.queue
is_device v t m k i = record { engine = k.engine i; queue = v.queue; accounts = k.accounts i; torn = k.torn i }

-- what holds of that device holds of each that matches the machine
pub of_device : (P : Device → Type 0) (v : Device) (t : Tables) (m : Machine) → Matches v t m → P (device_of m v.queue) → P v
of_device P v t m k p = subst P (sym (is_device v t m k)) p

-- that device matches the machine where the queue keeps its list
pub parts_match : (m : Machine) (q : ImpairQueue) (t : Tables) → Keeps t q (queue_of m) → SoundEngine m.engine → AllShort m → Matches (device_of m q) t m
parts_match m q t keeps sound short = record { engine = refl; accounts = refl; torn = refl; queue = keeps; sound = sound; short = short }

-- a width that 30 lets through is at most the longest packet
pub narrow : (t : Tables) (q : ImpairQueue) (p : Plain) → Keeps t q p → p.width ≤ max_length
narrow t q p keeps = omega (arith, (width_within q.width keeps.wide).1, keeps.same_width)

-- ---- refusals

-- what a call that is not refused has passed
pub record Passed (m : Machine) (instant short : Bool) : Type 0 where
  pub instant_passes : instant ≡ true
  pub length_passes : short ≡ true
  pub engine : counters_pass m.engine ≡ true
  pub accounts : are_counters (accountant_counters m.accounts) ≡ true
  pub torn : is_counter_of m.torn ≡ true
  pub next : is_counter_of m.next_seq ≡ true

range_passed : (m : Machine) → in_range m.engine m.accounts m.torn m.next_seq ≡ true → Passed m true true
unfolding in_range
range_passed m h =
    let next = both_true _ (is_counter_of m.next_seq) h in
    let torn = both_true _ (is_counter_of m.torn) next.0 in
    let parts = both_true (counters_pass m.engine) (are_counters (accountant_counters m.accounts)) torn.0 in
    record { instant_passes = refl; length_passes = refl; engine = parts.0; accounts = parts.1; torn = torn.1; next = next.1 }

-- a call that is refused as the machine refuses, and else does what a step does
module _ {A : Type 0} (P : A → Step → Type 0) (m : Machine) (done : A) (no : Refusal → A) (s : Step) (refuses : (e : Refusal) → P (no e) (step_to (refused (number_of e)) m)) where
  by_tests : (instant short counters : Bool) → in_range m.engine m.accounts m.torn m.next_seq ≡ counters
      → (Passed m instant short → P done s)
      → P (unless_met (first_refusal (device_checks true instant short counters)) done no)
      (unless_refused m (first_failing (check instant refused_instant ∷ check short refused_length ∷ check counters refused_counter ∷ [])) s)
  unfolding first_failing first_refusal
  by_tests false short counters e h = refuses refusal.Instant
  by_tests true false counters e h = refuses refusal.Length
  by_tests true true false e h = refuses refusal.Counter
  by_tests true true true e h = h (range_passed m e)

  -- for the device of the machine's parts and a queue with the machine's next seq
  pub by_refusal : (q : ImpairQueue) → q.next_seq ≡ m.next_seq → (memory instant short : Bool) → memory ≡ true
      → (Passed m instant short → P done s)
      → P (unless_met (call_refusal (device_of m q) memory instant short) done no) (unless m instant short s)
  unfolding call_refusal unless
  by_refusal q same memory instant short holds h =
      rw (same, holds) (by_tests instant short (in_range m.engine m.accounts m.torn m.next_seq) refl h)

-- ---- drains

-- where 25 lets the next seq through, the queue's drain tells how many were held
drains : (p : Plain) → is_counter_of p.next_seq ≡ true → drain_plain p ≡ queue_step_to (drained (length p.held)) (plain p.cap p.width [] p.next_seq)
unfolding drain_plain first_failing
drains p next = rw next

pub drains_all : (m : Machine) (q : ImpairQueue) (t : Tables) → Keeps t q (queue_of m) → is_counter_of m.next_seq ≡ true
    → Agree (said_by_drain t (drain_of q)) (queue_step_to (drained (length m.held)) (plain m.cap m.width [] m.next_seq))
drains_all m q t keeps next = subst (Agree (said_by_drain t (drain_of q))) (drains (queue_of m) next) (drain_agrees t q (queue_of m) keeps)
