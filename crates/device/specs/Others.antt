-- "rebind(now)", "teardown" and "report": 21 and 25, those that apply. None is lent memory.
use Rattle.std.specs.Prelude.{Bool, true, ℕ, ◌+◌, Float, Result, Ok, Err}
use Rattle.numbers.specs.Checks.{unless}
use Rattle.numbers.specs.Instant.{is_instant_of}
use Rattle.numbers.specs.declared.refusal.Refusal.{Refusal}
use Rattle.numbers.specs.declared.refusal.Refusal.TheVariants as refusal
use Rattle.accounts.specs.Calls.{merge_into_of}
use Rattle.accounts.specs.declared.stats.DirectionStats.{DirectionStats}
use Rattle.engine.specs.Calls.{should_rebind_now_of}
use Rattle.queue.specs.Calls.{drain_of}
use Rattle.queue.specs.declared.queue.ImpairQueue.{ImpairQueue}
use Rattle.device.specs.Parts.{Handed, with_engine, with_queue}
use Rattle.device.specs.Refusals.{call_refusal}
use Rattle.device.specs.declared.device.Device.{Device}
use Rattle.device.specs.declared.report.RefusedReport.{RefusedReport}
use Rattle.device.specs.declared.report.Report.{Report}

-- ---- rebind: the engine's `should_rebind_now`; settings that it refuses were altered: 26

abbrev pub not_rebound : Device → Refusal → Handed Bool
not_rebound v e = (v, Err e)

unfoldable pub rebound_by : Result Bool Refusal → Device → Handed Bool
rebound_by (Ok b) v = (v, Ok b)
rebound_by (Err k) v = not_rebound v refusal.Keeping

unfoldable pub rebind_of : Device → Float → Handed Bool
rebind_of v now =
    let r = should_rebind_now_of v.engine now in
    unless (call_refusal v true (is_instant_of now) true) (rebound_by r.1 (with_engine v r.0)) (λ e. not_rebound v e)

-- ---- teardown: every held copy is torn, and the answer says how many; a queue that is out of keeping gives 26

abbrev pub not_torn : Device → Refusal → Handed ℕ
not_torn v e = (v, Err e)

-- the device with this queue, and so many copies more torn
abbrev pub with_torn : Device → ImpairQueue → ℕ → Device
with_torn v q n = record { engine = v.engine; queue = q; accounts = v.accounts; torn = v.torn + n }

unfoldable pub torn_by : Result ℕ Refusal → Device → ImpairQueue → Handed ℕ
torn_by (Ok n) v q = (with_torn v q n, Ok n)
torn_by (Err e) v q = not_torn (with_queue v q) refusal.Keeping

unfoldable pub teardown_of : Device → Handed ℕ
teardown_of v =
    let d = drain_of v.queue in
    unless (call_refusal v true true true) (torn_by d.1 v d.0) (λ e. not_torn v e)

-- ---- report: the statistics of engine and accounts together, how many copies are held and how many were torn

abbrev pub reported_with : Device → DirectionStats → Report
reported_with v s = record { stats = s; held = v.queue.held; torn = v.torn }

-- beside a refusal stand the statistics of the engine alone, and the numbers held and torn
abbrev pub refused_report_of : Device → Refusal → RefusedReport
refused_report_of v e = record { refusal = e; report = reported_with v v.engine.stats }

unfoldable pub reported_by : Result (Unit {0}) Refusal → Device → DirectionStats → Result Report RefusedReport
reported_by (Ok u) v s = Ok (reported_with v s)
reported_by (Err e) v s = Err (refused_report_of v e)

unfoldable pub report_of : Device → Result Report RefusedReport
report_of v =
    let m = merge_into_of v.accounts v.engine.stats in
    unless (call_refusal v true true true) (reported_by m.1 v m.0) (λ e. Err (refused_report_of v e))
