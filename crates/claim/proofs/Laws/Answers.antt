-- What each call of crates/device says and leaves, by the definitions, and a list of calls.
use Rattle.std.specs.Prelude.{List, [], ◌∷◌, Option, Result}
use Rattle.numbers.specs.declared.refusal.Refusal.{Refusal}
use Rattle.queue.specs.Tables.{Tables, After}
use Rattle.queue.specs.declared.answers.Queued.{Queued}
use Rattle.machine.specs.Calls as call
use Rattle.machine.specs.Calls.{Call, Answer}
use Rattle.device.specs.Arrive.{arrive_of}
use Rattle.device.specs.Release.{release_of}
use Rattle.device.specs.Others.{rebind_of, teardown_of, report_of}
use Rattle.device.specs.Parts.{Handed}
use Rattle.device.specs.declared.arrive.Arrived.{Arrived}
use Rattle.device.specs.declared.device.Device.{Device}
use Rattle.claim.specs.Replies.{said_of_arrive, said_of_release, said_of_rebind, said_of_teardown, said_of_report}

-- what a call says, and the device and tables that it leaves
pub record Said : Type 0 where
  pub reply : Answer
  pub device : Device
  pub tables : Tables

abbrev pub said : Answer → Device → Tables → Said
said r v t = record { reply = r; device = v; tables = t }

-- the device and the answer that a call hands back, with the tables that it leaves
abbrev pub said_by : {A : Type 0} → (Result A Refusal → Answer) → Tables → Handed A → Said
said_by says t h = said (says h.1) h.0 t

abbrev pub said_by_arrive : After (Handed Arrived) → Said
said_by_arrive o = said_by said_of_arrive o.memory o.gives

-- a released copy is read with the width and the store that the call leaves
abbrev pub said_by_release : After (Handed (Option Queued)) → Said
said_by_release o = said_by (said_of_release o.gives.0.queue.width o.memory.store) o.memory o.gives

-- a call of crates/device; a report leaves the device as it is
unfoldable pub answer_to : Device → Tables → Call → Said
answer_to v t (call.arrive now bytes route) = said_by_arrive (arrive_of v t now bytes route)
answer_to v t (call.release now) = said_by_release (release_of v t now)
answer_to v t (call.rebind now) = said_by said_of_rebind t (rebind_of v now)
answer_to v t call.teardown = said_by said_of_teardown t (teardown_of v)
answer_to v t call.report = said (said_of_report (report_of v)) v t

-- a list of calls, each on what the last one left
unfoldable pub answers_to : Device → Tables → List Call → List Answer
answers_to v t [] = []
answers_to v t (c ∷ cs) = (answer_to v t c).reply ∷ answers_to (answer_to v t c).device (answer_to v t c).tables cs
