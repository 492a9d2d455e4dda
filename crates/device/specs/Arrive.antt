-- An arrival: 23, 21, 22, 25; then the engine decides, the queue follows, and what came of it is counted.
use Rattle.std.specs.Prelude.{◌&&◌, List, ℕ, ◌+◌, leb, Float, length, Result, Ok, Err}
use Rattle.numbers.specs.Checks.{unless}
use Rattle.numbers.specs.Instant.{is_instant_of}
use Rattle.numbers.specs.Limits.{is_length_of}
use Rattle.numbers.specs.declared.refusal.Refusal.{Refusal}
use Rattle.accounts.specs.Accountant.{resets_of}
use Rattle.steps.specs.declared.decision.Decision.{Decision}
use Rattle.engine.specs.Changes.{overflowed_of}
use Rattle.engine.specs.Decide.{decide_passed_of}
use Rattle.engine.specs.declared.engine.ArrivalEngine.{ArrivalEngine}
use Rattle.queue.specs.Refusals.{memory_of}
use Rattle.queue.specs.Tables.{Tables, After, after}
use Rattle.queue.specs.declared.queue.ImpairQueue.{ImpairQueue}
use Rattle.admission.specs.Follow.{follow_of}
use Rattle.admission.specs.declared.admitted.Admitted.{Admitted}
use Rattle.device.specs.Parts.{Handed}
use Rattle.device.specs.Refusals.{call_refusal}
use Rattle.device.specs.declared.arrive.Arrived.{Arrived}
use Rattle.device.specs.declared.device.Device.{Device}

-- what was decided and what was counted
abbrev pub answer_of : Decision → Admitted → Arrived
answer_of d a = record { decision = d; entered = a.entered; overflowed = a.overflowed; torn = a.torn }

-- the device once what an arrival did to the queue is counted
unfoldable pub counted_of : Device → Admitted → Device
counted_of v a = record { engine = overflowed_of v.engine a.overflowed; queue = v.queue; accounts = resets_of v.accounts a.resets; torn = v.torn + a.torn }

-- the device with the engine and the queue that an arrival left
abbrev pub decided_with : Device → ArrivalEngine → ImpairQueue → Device
decided_with v e q = record { engine = e; queue = q; accounts = v.accounts; torn = v.torn }

-- where the queue was found out of keeping nothing is counted: 26
unfoldable pub settled_by : Result Admitted Refusal → Device → Decision → Handed Arrived
settled_by (Ok a) v d = (counted_of v a, Ok (answer_of d a))
settled_by (Err e) v d = (v, Err e)

abbrev pub settled_of : Device → ArrivalEngine × Decision → ImpairQueue × Result Admitted Refusal → Handed Arrived
settled_of v d f = settled_by f.1 (decided_with v d.0 f.0) d.1

abbrev pub not_arrived : Device → Refusal → Handed Arrived
not_arrived v e = (v, Err e)

abbrev pub settled_in : Device → ArrivalEngine × Decision → After (ImpairQueue × Result Admitted Refusal) → After (Handed Arrived)
settled_in v d f = after (settled_of v d f.gives) f.memory

-- 22: a packet that is longer than a slot. Where the width was altered it may be above what the engine takes, and those packets are refused too
abbrev pub arrive_refusal : Device → Tables → Float → ℕ → Result (Unit {0}) Refusal
arrive_refusal v t now len = call_refusal v (memory_of v.queue.width v.queue.cap t) (is_instant_of now) (leb len v.queue.width && is_length_of len)

unfoldable pub arrive_of : Device → Tables → Float → List ℕ → ℕ → After (Handed Arrived)
arrive_of v t now bytes route =
    let d = decide_passed_of v.engine now (length bytes) in
    unless (arrive_refusal v t now (length bytes)) (settled_in v d (follow_of v.queue t d.1 now route bytes)) (λ e. after (not_arrived v e) t)
