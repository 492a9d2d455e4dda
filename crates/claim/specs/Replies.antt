-- What the answers of crates/device say, as answers of the plain machine: the numbers and values of each case. The slot is left out, and a released copy has its
-- bytes from the store.
use Rattle.std.specs.Prelude.{Bool, List, ℕ, Option, None, Some, Result, Ok, Err}
use Rattle.numbers.specs.Refusals.{number_of}
use Rattle.numbers.specs.declared.refusal.Refusal.{Refusal}
use Rattle.queue.specs.declared.answers.Queued.{Queued}
use Rattle.queue_laws.specs.Replies.{copy_of}
use Rattle.machine.specs.Calls.{Answer, decided, released, none_due, rebound, tore_down, reported, refused}
use Rattle.device.specs.declared.arrive.Arrived.{Arrived}
use Rattle.device.specs.declared.report.RefusedReport.{RefusedReport}
use Rattle.device.specs.declared.report.Report.{Report}

-- what a call gives is said by its own case, and a refusal by its number
abbrev pub told : {A : Type 0} → (A → Answer) → Result A Refusal → Answer
told says (Ok x) = says x
told says (Err e) = refused (number_of e)

abbrev pub said_of_arrive : Result Arrived Refusal → Answer
said_of_arrive = told (λ a. decided a.decision a.entered a.overflowed a.torn)

abbrev pub left_of : ℕ → List ℕ → Option Queued → Answer
left_of width store (Some c) = released (copy_of width store c)
left_of width store None = none_due

abbrev pub said_of_release : ℕ → List ℕ → Result (Option Queued) Refusal → Answer
said_of_release width store = told (left_of width store)

abbrev pub said_of_rebind : Result Bool Refusal → Answer
said_of_rebind = told rebound

abbrev pub said_of_teardown : Result ℕ Refusal → Answer
said_of_teardown = told tore_down

-- what is told beside a report's refusal says nothing
abbrev pub said_of_report : Result Report RefusedReport → Answer
said_of_report (Ok r) = reported r.stats r.held r.torn
said_of_report (Err e) = refused (number_of e.refusal)
