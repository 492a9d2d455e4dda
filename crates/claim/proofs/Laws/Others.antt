-- A rebind, a teardown and a report answer as the machine's do.
use Rattle.std.proofs.Math.Path.{◌≡◌, refl, ap}
use Rattle.std.specs.Prelude.{Bool, cond, [], ℕ, Float, Result, Ok, Err}
use Rattle.std.proofs.Math.Bool.{true, false}
use Rattle.std.specs.Float.Ieee.{le}
use Rattle.std.proofs.Math.ListN.{length}
use Rattle.numbers.specs.Checks.{first_refusal}
use Rattle.numbers.specs.Instant.{is_instant_of}
use Rattle.numbers.specs.Laws.Both.{both, both_true}
use Rattle.numbers.specs.Limits.{is_counter_of}
use Rattle.numbers.specs.declared.refusal.Refusal.{Refusal}
use Rattle.accounts.specs.Accountant.{merged_of}
use Rattle.accounts.specs.Counters.{are_counters, stats_counters}
use Rattle.accounts.specs.Laws.Calls.{merge_done}
use Rattle.judgement.specs.Settings.{is_settings_of}
use Rattle.engine.specs.Calls.{called, should_rebind_now_of}
use Rattle.engine.specs.Changes.{rebound_of}
use Rattle.engine.specs.Laws.Sound.{SoundEngine, rebound_sound}
use Rattle.engine.specs.Refusals.{judged_given_of, judged_of, counters_pass}
use Rattle.engine.specs.declared.engine.ArrivalEngine.{ArrivalEngine}
use Rattle.queue.specs.Calls.{drain_of}
use Rattle.queue.specs.Tables.{Tables}
use Rattle.queue.specs.declared.queue.ImpairQueue.{ImpairQueue}
use Rattle.queue_laws.specs.Held.{plain, drained}
use Rattle.queue_laws.specs.Laws.Keeps.{Keeps}
use Rattle.queue_laws.specs.Replies.{said_of_drain}
use Rattle.machine.specs.Calls.{rebind, rebound, teardown, tore_down, report, reported}
use Rattle.machine.specs.Machine.{Machine}
use Rattle.machine.specs.Steps.{step_to, with_engine, tear, rebind_step, teardown_step, report_step, step}
use Rattle.device.specs.Others.{not_rebound, rebound_by, rebind_of, not_torn, torn_by, teardown_of, refused_report_of, reported_by, report_of}
use Rattle.device.specs.Parts.{Handed}
use Rattle.device.specs.declared.device.Device.{Device}
use Rattle.device.specs.declared.report.RefusedReport.{RefusedReport}
use Rattle.device.specs.declared.report.Report.{Report}
use Rattle.claim.specs.Replies.{said_of_rebind, said_of_teardown, said_of_report}
use Rattle.claim.proofs.Laws.Answers.{said, said_by}
use Rattle.claim.proofs.Laws.Matches.{Matches, AllShort}
use Rattle.claim.proofs.Laws.Agree.{Agrees, queue_of, device_of, of_device, parts_match, Passed, by_refusal, drains_all}

-- ---- rebind

abbrev by_time : ArrivalEngine → Bool → ArrivalEngine × Result Bool Refusal
by_time e b = called (Ok tt) e (cond b (rebound_of e, true) (e, false))

-- the engine refuses nothing that the device let through
judges : (e : ArrivalEngine) (instant : Bool) → is_settings_of e.cfg ≡ true → instant ≡ true → counters_pass e ≡ true → judged_of e instant true ≡ Ok tt
unfolding judged_given_of first_refusal
judges e instant settings now counters = rw (settings, now, counters)

rebinds : (e : ArrivalEngine) (now : Float) → judged_of e (is_instant_of now) true ≡ Ok tt → should_rebind_now_of e now ≡ by_time e (le e.next_rebind_ms now)
unfolding should_rebind_now_of
rebinds e now h = rw h

-- ---- the three calls on the device of a machine's parts and a queue that keeps its list

module _ (m : Machine) (q : ImpairQueue) (t : Tables) (keeps : Keeps t q (queue_of m)) (sound : SoundEngine m.engine) (short : AllShort m) where
  matching : Matches (device_of m q) t m
  matching = parts_match m q t keeps sound short

  by_time_lem : (b : Bool)
      → Agrees (said_by said_of_rebind t (rebound_by (by_time m.engine b).1 (device_of (with_engine m (by_time m.engine b).0) q)))
      (cond b (step_to (rebound true) (with_engine m (rebound_of m.engine))) (step_to (rebound false) m))
  unfolding rebound_by
  by_time_lem true = record { says = refl; matches = parts_match (with_engine m (rebound_of m.engine)) q t keeps (rebound_sound m.engine sound) short }
  by_time_lem false = record { says = refl; matches = matching }

  rebind_parts : (now : Float) → Agrees (said_by said_of_rebind t (rebind_of (device_of m q) now)) (step m (rebind now))
  unfolding rebind_of step rebind_step
  rebind_parts now =
      by_refusal (λ (h : Handed Bool). Agrees (said_by said_of_rebind t h)) m _ (λ (r : Refusal). not_rebound (device_of m q) r) _ (λ (r : Refusal). record { says = refl; matches = matching })
      q keeps.same_next true (is_instant_of now) true refl
      (λ (p : Passed m (is_instant_of now) true).
      rw (rebinds m.engine now (judges m.engine (is_instant_of now) sound.settings p.instant_passes p.engine)) (by_time_lem (le m.engine.next_rebind_ms now)))

  -- ---- teardown

  torn_down : (a : Result ℕ Refusal) (r : ImpairQueue) → said_of_drain a ≡ drained (length m.held) → Keeps t r (plain m.cap m.width [] m.next_seq)
      → Agrees (said_by said_of_teardown t (torn_by a (device_of m q) r)) (step_to (tore_down (length m.held)) (tear m))
  unfolding torn_by
  torn_down (Ok n) r says empty =
      let same : n ≡ length m.held = cc in
      rw same (record { says = refl; matches = parts_match (tear m) r t empty sound (λ c k. absurd k) })
  torn_down (Err e) r says empty = cc

  teardown_parts : Agrees (said_by said_of_teardown t (teardown_of (device_of m q))) (step m teardown)
  unfolding teardown_of step teardown_step
  teardown_parts =
      by_refusal (λ (h : Handed ℕ). Agrees (said_by said_of_teardown t h)) m _ (λ (r : Refusal). not_torn (device_of m q) r) _ (λ (r : Refusal). record { says = refl; matches = matching })
      q keeps.same_next true true true refl
      (λ (p : Passed m true true).
      let a = drains_all m q t keeps p.next in
      torn_down (drain_of q).1 (drain_of q).0 a.says a.keeps)

  -- ---- report

  report_parts : Agrees (said (said_of_report (report_of (device_of m q))) (device_of m q) t) (step m report)
  unfolding report_of reported_by step report_step
  report_parts =
      by_refusal (λ (r : Result Report RefusedReport). Agrees (said (said_of_report r) (device_of m q) t)) m _ (λ (r : Refusal). Err (refused_report_of (device_of m q) r)) _ (λ (r : Refusal). record { says = refl; matches = matching })
      q keeps.same_next true true true refl
      (λ (p : Passed m true true).
      rw (merge_done m.accounts m.engine.stats (both _ _ p.accounts (both_true (is_counter_of m.engine.rebinds_done) (are_counters (stats_counters m.engine.stats)) p.engine).1))
      (record { says = ap (λ (n : ℕ). reported (merged_of m.accounts m.engine.stats) n m.torn) keeps.count; matches = matching }))

module _ (v : Device) (t : Tables) (m : Machine) (k : Matches v t m) where
  pub rebind_matches : (now : Float) → Agrees (said_by said_of_rebind t (rebind_of v now)) (step m (rebind now))
  rebind_matches now = of_device (λ (w : Device). Agrees (said_by said_of_rebind t (rebind_of w now)) (step m (rebind now))) v t m k (rebind_parts m v.queue t k.queue k.sound k.short now)

  pub teardown_matches : Agrees (said_by said_of_teardown t (teardown_of v)) (step m teardown)
  teardown_matches = of_device (λ (w : Device). Agrees (said_by said_of_teardown t (teardown_of w)) (step m teardown)) v t m k (teardown_parts m v.queue t k.queue k.sound k.short)

  -- the device stays as it is
  pub report_matches : Agrees (said (said_of_report (report_of v)) v t) (step m report)
  report_matches = of_device (λ (w : Device). Agrees (said (said_of_report (report_of w)) w t) (step m report)) v t m k (report_parts m v.queue t k.queue k.sound k.short)
