-- Runs of the program: each step is a call of a function of crates/device, answered and its tables left as the function's own contract says (`Learnt`), and begins
-- with what the last one left.
use Rattle.std.specs.Prelude.{◌≡◌, Bool, true, false, List, [], ◌∷◌, ℕ, T, Float, Option, None, Some, Result, Ok, Err}
use Rattle.std.specs.Float.{binary64}
use Rattle.std.specs.Float.Ieee.{fits}
use contract.Lifetimes
use borrow.Fn.World
use borrow.Fn.Kinds as Kinds'
use denote.Triple.Clauses
use Rattle.numbers.specs.Refusals.{number_of}
use Rattle.numbers.specs.declared.refusal.Refusal.{Refusal}
use Rattle.options.specs.declared.config.Config.{Config}
use Rattle.options.specs.declared.config.DirectionConfig.{DirectionConfig}
use Rattle.held.specs.Copies.{copy}
use Rattle.queue.specs.Lent.{entry_tables, exit_tables, seen_tables}
use Rattle.queue.specs.Tables.{Tables}
use Rattle.queue.specs.declared.answers.Queued.{Queued}
use Rattle.machine.specs.Calls.{Call, arrive as arrive_call, release as release_call, rebind as rebind_call, teardown as teardown_call, report as report_call, Answer, released, none_due, refused}
use Rattle.device.specs.Parts.{Handed}
use Rattle.device.specs.declared.arrive.Arrived.{Arrived}
use Rattle.device.specs.declared.report.RefusedReport.{RefusedReport}
use Rattle.device.specs.declared.report.Report.{Report}
use Rattle.device.specs.declared.device.Device.{Device}
use Rattle.device.specs.contracts.device.Device.create as create_fn
use Rattle.device.proofs.device.Device.create.Reads as create
use Rattle.device.proofs.device.Device.create.Kinds as create_kinds
use Rattle.device.specs.contracts.device.Device.arrive as arrive_fn
use Rattle.device.proofs.device.Device.arrive.Reads as arrive
use Rattle.device.proofs.device.Device.arrive.Kinds as arrive_kinds
use Rattle.device.specs.contracts.device.Device.arrive_in_place as arrive_in_place_fn
use Rattle.device.proofs.device.Device.arrive_in_place.Reads as arrive_in_place
use Rattle.device.proofs.device.Device.arrive_in_place.Kinds as arrive_in_place_kinds
use Rattle.device.specs.contracts.device.Device.release as release_fn
use Rattle.device.proofs.device.Device.release.Reads as release
use Rattle.device.proofs.device.Device.release.Kinds as release_kinds
use Rattle.device.specs.contracts.device.Device.release_in_place as release_in_place_fn
use Rattle.device.proofs.device.Device.release_in_place.Reads as release_in_place
use Rattle.device.proofs.device.Device.release_in_place.Kinds as release_in_place_kinds
use Rattle.device.specs.contracts.device.Device.rebind as rebind_fn
use Rattle.device.proofs.device.Device.rebind.Reads as rebind
use Rattle.device.proofs.device.Device.rebind.Kinds as rebind_kinds
use Rattle.device.specs.contracts.device.Device.rebind_in_place as rebind_in_place_fn
use Rattle.device.proofs.device.Device.rebind_in_place.Reads as rebind_in_place
use Rattle.device.proofs.device.Device.rebind_in_place.Kinds as rebind_in_place_kinds
use Rattle.device.specs.contracts.device.Device.teardown as teardown_fn
use Rattle.device.proofs.device.Device.teardown.Reads as teardown
use Rattle.device.proofs.device.Device.teardown.Kinds as teardown_kinds
use Rattle.device.specs.contracts.device.Device.teardown_in_place as teardown_in_place_fn
use Rattle.device.proofs.device.Device.teardown_in_place.Reads as teardown_in_place
use Rattle.device.proofs.device.Device.teardown_in_place.Kinds as teardown_in_place_kinds
use Rattle.device.specs.contracts.device.Device.report as report_fn
use Rattle.device.proofs.device.Device.report.Reads as report
use Rattle.device.proofs.device.Device.report.Kinds as report_kinds
use Rattle.device.specs.contracts.payload as payload_fn
use Rattle.device.proofs.payload.Reads as payload
use Rattle.device.proofs.payload.Kinds as payload_kinds
use Rattle.options.specs.contracts.parse_config as parse_fn
use Rattle.options.proofs.parse_config.Reads as parse
use Rattle.options.proofs.parse_config.Kinds as parse_kinds
use Rattle.claim.specs.Replies.{said_of_arrive, said_of_rebind, said_of_teardown, said_of_report}

-- ---- calls: `Learnt` is what the function's contract ensures of its arguments, its result and the tables at exit

-- a call of `parse_config` on a text returned r
pub data Parses (text : List ℕ) : Config × Result (Unit {0}) Refusal → Type 1 where
  called : (κs : Lifetimes.Lfts 1) (a : World.ArgsD parse_fn.signature κs) (r : World.ResD parse_fn.signature κs) (s : Clauses.AtExit (Kinds'.ended_of 1 parse_kinds.ps parse_kinds.r) κs)
      → a.0.now ≡ text
      → parse.Learnt κs a r s
      → Parses text r

-- a call of `create` with a capacity and a slot width, over the tables t, returned r
pub data Creates (cfg : DirectionConfig) (seed salt cap width : ℕ) (t : Tables) : Handed (Unit {0}) → Type 1 where
  called : (κs : Lifetimes.Lfts 3) (a : World.ArgsD create_fn.signature κs) (r : World.ResD create_fn.signature κs) (s : Clauses.AtExit (Kinds'.ended_of 3 create_kinds.ps create_kinds.r) κs)
      → a.0 ≡ cfg → a.1.0 ≡ seed → a.1.1.0 ≡ salt → a.1.1.1.0 ≡ cap → a.1.1.1.1.0 ≡ width
      → seen_tables a.1.1.1.1.1.0 a.1.1.1.1.1.1.0.now a.1.1.1.1.1.1.1.0 ≡ t
      → create.Learnt κs a r s
      → Creates cfg seed salt cap width t r

-- a call of `arrive` on the device v and the tables t, or of `arrive_in_place`, which leaves the device where it was, returned r and left tables; the free slots
-- are only read, and the instant is a number of binary64, as every f64 is
pub data Arrives (v : Device) (t : Tables) (instant : Float) (bytes : List ℕ) (route : ℕ) : Handed Arrived → Tables → Type 1 where
  called : (κs : Lifetimes.Lfts 6) (a : World.ArgsD arrive_fn.signature κs) (r : World.ResD arrive_fn.signature κs) (s : Clauses.AtExit (Kinds'.ended_of 6 arrive_kinds.ps arrive_kinds.r) κs)
      → T (fits binary64 instant)
      → a.0 ≡ v → entry_tables a.1.0.now a.1.1.0.now a.1.1.1.0.now ≡ t
      → a.1.1.1.1.0 ≡ instant
      → a.1.1.1.1.1.0.now ≡ bytes
      → a.1.1.1.1.1.1.0 ≡ route
      → arrive.Learnt κs a r s
      → Arrives v t instant bytes route r (entry_tables s.1.0.now a.1.1.0.now s.1.1.1.0.now)
  called_in_place : (κs : Lifetimes.Lfts 7) (a : World.ArgsD arrive_in_place_fn.signature κs) (r : World.ResD arrive_in_place_fn.signature κs) (s : Clauses.AtExit (Kinds'.ended_of 7 arrive_in_place_kinds.ps arrive_in_place_kinds.r) κs)
      → T (fits binary64 instant)
      → a.0.now ≡ v → entry_tables a.1.0.now a.1.1.0.now a.1.1.1.0.now ≡ t
      → a.1.1.1.1.0 ≡ instant
      → a.1.1.1.1.1.0.now ≡ bytes
      → a.1.1.1.1.1.1.0 ≡ route
      → arrive_in_place.Learnt κs a r s
      → Arrives v t instant bytes route (s.0.now, r) (entry_tables s.1.0.now a.1.1.0.now s.1.1.1.0.now)

-- a call of `release` or of `release_in_place` at an instant; the copies are only read
pub data Releases (v : Device) (t : Tables) (instant : Float) : Handed (Option Queued) → Tables → Type 1 where
  called : (κs : Lifetimes.Lfts 4) (a : World.ArgsD release_fn.signature κs) (r : World.ResD release_fn.signature κs) (s : Clauses.AtExit (Kinds'.ended_of 4 release_kinds.ps release_kinds.r) κs)
      → a.0 ≡ v → exit_tables a.1.0.now a.1.1.0.now a.1.1.1.0 ≡ t
      → a.1.1.1.1.0 ≡ instant
      → release.Learnt κs a r s
      → Releases v t instant r (exit_tables s.1.0.now s.1.1.0.now a.1.1.1.0)
  called_in_place : (κs : Lifetimes.Lfts 5) (a : World.ArgsD release_in_place_fn.signature κs) (r : World.ResD release_in_place_fn.signature κs) (s : Clauses.AtExit (Kinds'.ended_of 5 release_in_place_kinds.ps release_in_place_kinds.r) κs)
      → a.0.now ≡ v → exit_tables a.1.0.now a.1.1.0.now a.1.1.1.0 ≡ t
      → a.1.1.1.1.0 ≡ instant
      → release_in_place.Learnt κs a r s
      → Releases v t instant (s.0.now, r) (exit_tables s.1.0.now s.1.1.0.now a.1.1.1.0)

-- calls of `rebind`, `teardown` and `report`, or of the first two in place, which are lent no table; a report is lent the device
pub data Rebinds (v : Device) (instant : Float) : Handed Bool → Type 1 where
  called : (κs : Lifetimes.Lfts 0) (a : World.ArgsD rebind_fn.signature κs) (r : World.ResD rebind_fn.signature κs) (s : Clauses.AtExit (Kinds'.ended_of 0 rebind_kinds.ps rebind_kinds.r) κs)
      → a.0 ≡ v → a.1.0 ≡ instant
      → rebind.Learnt κs a r s
      → Rebinds v instant r
  called_in_place : (κs : Lifetimes.Lfts 1) (a : World.ArgsD rebind_in_place_fn.signature κs) (r : World.ResD rebind_in_place_fn.signature κs) (s : Clauses.AtExit (Kinds'.ended_of 1 rebind_in_place_kinds.ps rebind_in_place_kinds.r) κs)
      → a.0.now ≡ v → a.1.0 ≡ instant
      → rebind_in_place.Learnt κs a r s
      → Rebinds v instant (s.0.now, r)

pub data TearsDown (v : Device) : Handed ℕ → Type 1 where
  called : (κs : Lifetimes.Lfts 0) (a : World.ArgsD teardown_fn.signature κs) (r : World.ResD teardown_fn.signature κs) (s : Clauses.AtExit (Kinds'.ended_of 0 teardown_kinds.ps teardown_kinds.r) κs)
      → a.0 ≡ v
      → teardown.Learnt κs a r s
      → TearsDown v r
  called_in_place : (κs : Lifetimes.Lfts 1) (a : World.ArgsD teardown_in_place_fn.signature κs) (r : World.ResD teardown_in_place_fn.signature κs) (s : Clauses.AtExit (Kinds'.ended_of 1 teardown_in_place_kinds.ps teardown_in_place_kinds.r) κs)
      → a.0.now ≡ v
      → teardown_in_place.Learnt κs a r s
      → TearsDown v (s.0.now, r)

pub data Reports (v : Device) : Result Report RefusedReport → Type 1 where
  called : (κs : Lifetimes.Lfts 1) (a : World.ArgsD report_fn.signature κs) (r : World.ResD report_fn.signature κs) (s : Clauses.AtExit (Kinds'.ended_of 1 report_kinds.ps report_kinds.r) κs)
      → a.0.now ≡ v
      → report.Learnt κs a r s
      → Reports v r

-- a call of `payload` on a store of slots of that width, with a slot and a length, returned bytes
pub data Reads (store : List ℕ) (width slot len : ℕ) : List ℕ → Type 1 where
  called : (κs : Lifetimes.Lfts 1) (a : World.ArgsD payload_fn.signature κs) (r : World.ResD payload_fn.signature κs) (s : Clauses.AtExit (Kinds'.ended_of 1 payload_kinds.ps payload_kinds.r) κs)
      → a.0.now ≡ store → a.1.0 ≡ width → a.1.1.0 ≡ slot → a.1.1.1.0 ≡ len
      → payload.Learnt κs a r s
      → Reads store width slot len r.now

-- what an answer of `release` says, with the bytes that `payload` reads in the store that is left, by the width of the device that is handed back
pub data Says (width : ℕ) (store : List ℕ) : Result (Option Queued) Refusal → Answer → Type 1 where
  hands_out : {c : Queued} {bytes : List ℕ} → Reads store width c.slot c.length bytes
      → Says width store (Ok (Some c)) (released (copy c.due_ms c.seq c.arrival_ms c.route c.copy_id c.length bytes))
  none : Says width store (Ok None) none_due
  refuses : {e : Refusal} → Says width store (Err e) (refused (number_of e))

-- ---- a call of any kind, and a run

-- the call on the device v and the tables t was answered so, and left the device v' and the tables t'
pub data Answered (v : Device) (t : Tables) : Call → Answer → Device → Tables → Type 1 where
  arrives : {t' : Tables} {instant : Float} {bytes : List ℕ} {route : ℕ} {r : Handed Arrived} → Arrives v t instant bytes route r t'
      → Answered v t (arrive_call instant bytes route) (said_of_arrive r.1) r.0 t'
  releases : {t' : Tables} {instant : Float} {r : Handed (Option Queued)} {reply : Answer} → Releases v t instant r t' → Says r.0.queue.width t'.store r.1 reply
      → Answered v t (release_call instant) reply r.0 t'
  rebinds : {instant : Float} {r : Handed Bool} → Rebinds v instant r → Answered v t (rebind_call instant) (said_of_rebind r.1) r.0 t
  tears_down : {r : Handed ℕ} → TearsDown v r → Answered v t teardown_call (said_of_teardown r.1) r.0 t
  -- a report hands back no device: the host goes on with the one that it has
  reports : {r : Result Report RefusedReport} → Reports v r → Answered v t report_call (said_of_report r) v t

-- a run over a list of calls, each on what the last one left, with its answers
pub data Ran : Device → Tables → List Call → List Answer → Type 1 where
  done : {v : Device} {t : Tables} → Ran v t [] []
  next : {v v' : Device} {t t' : Tables} {c : Call} {a : Answer} {cs : List Call} {rs : List Answer}
      → Answered v t c a v' t' → Ran v' t' cs rs → Ran v t (c ∷ cs) (a ∷ rs)

-- whether a call was made by value: the device was handed in and back, and not changed in place
abbrev pub arrives_by_value : {v : Device} {t t' : Tables} {instant : Float} {bytes : List ℕ} {route : ℕ} {r : Handed Arrived} → Arrives v t instant bytes route r t' → Bool
arrives_by_value (Arrives.called κs a r s fit ev et ei eb er h) = true
arrives_by_value (Arrives.called_in_place κs a r s fit ev et ei eb er h) = false

abbrev pub releases_by_value : {v : Device} {t t' : Tables} {instant : Float} {r : Handed (Option Queued)} → Releases v t instant r t' → Bool
releases_by_value (Releases.called κs a r s ev et ei h) = true
releases_by_value (Releases.called_in_place κs a r s ev et ei h) = false

abbrev pub rebinds_by_value : {v : Device} {instant : Float} {r : Handed Bool} → Rebinds v instant r → Bool
rebinds_by_value (Rebinds.called κs a r s ev ei h) = true
rebinds_by_value (Rebinds.called_in_place κs a r s ev ei h) = false

abbrev pub tears_by_value : {v : Device} {r : Handed ℕ} → TearsDown v r → Bool
tears_by_value (TearsDown.called κs a r s ev h) = true
tears_by_value (TearsDown.called_in_place κs a r s ev h) = false

-- a report, which is lent the device, has no other form
abbrev pub answered_by_value : {v v' : Device} {t t' : Tables} {c : Call} {a : Answer} → Answered v t c a v' t' → Bool
answered_by_value (arrives x) = arrives_by_value x
answered_by_value (releases x says) = releases_by_value x
answered_by_value (rebinds x) = rebinds_by_value x
answered_by_value (tears_down x) = tears_by_value x
answered_by_value (reports x) = true

-- each call of a run was made by value
abbrev pub ByValue : {v : Device} {t : Tables} {cs : List Call} {rs : List Answer} → Ran v t cs rs → Type 0
ByValue done = Unit {0}
ByValue (next call ran) = (answered_by_value call ≡ true) × ByValue ran

-- each device that a run hands on has slots of that width
abbrev pub WidthStays : ℕ → {v : Device} {t : Tables} {cs : List Call} {rs : List Answer} → Ran v t cs rs → Type 0
WidthStays w done = Unit {0}
WidthStays w (next {v} {v'} call ran) = (v'.queue.width ≡ w) × WidthStays w ran

-- each call of a run that was refused left the device and all nine tables as they were
abbrev pub RefusedStay : {v : Device} {t : Tables} {cs : List Call} {rs : List Answer} → Ran v t cs rs → Type 0
RefusedStay done = Unit {0}
RefusedStay (next {v} {v'} {t} {t'} {c} {a} call ran) = ((k : ℕ) → a ≡ refused k → (v' ≡ v) × (t' ≡ t)) × RefusedStay ran
