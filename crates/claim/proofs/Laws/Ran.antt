-- What each call of a run returns is what its definition gives, so a run's answers are those of the definitions.
use Rattle.std.specs.Prelude.{◌≡◌, refl, Bool, List, ◌∷◌, ℕ, T, Float, Option, Result}
use Rattle.std.proofs.Common.{ap, ◌∙◌}
use Rattle.std.specs.Float.{binary64}
use Rattle.std.specs.Float.Ieee.{fits}
use Rattle.numbers.specs.declared.refusal.Refusal.{Refusal}
use Rattle.options.specs.Parse.{parse_of}
use Rattle.options.specs.declared.config.Config.{Config}
use Rattle.options.specs.declared.config.DirectionConfig.{DirectionConfig}
use Rattle.held.specs.Copies.{copy}
use Rattle.queue.specs.Tables.{Tables, after}
use Rattle.queue.specs.Calls.{payload_of}
use Rattle.queue.specs.declared.answers.Queued.{Queued}
use Rattle.machine.specs.Calls.{Call, Answer, released, Binary64Call, Binary64}
use Rattle.device.specs.Creation.{create_of}
use Rattle.device.specs.Arrive.{arrive_of}
use Rattle.device.specs.Release.{release_of}
use Rattle.device.specs.Others.{rebind_of, teardown_of, report_of}
use Rattle.device.specs.Parts.{Handed}
use Rattle.device.specs.declared.arrive.Arrived.{Arrived}
use Rattle.device.specs.declared.report.RefusedReport.{RefusedReport}
use Rattle.device.specs.declared.report.Report.{Report}
use Rattle.device.specs.declared.device.Device.{Device}
use Rattle.claim.specs.Replies.{said_of_release, said_of_rebind, said_of_teardown, said_of_report}
use Rattle.claim.specs.Runs.{Parses, Creates, Arrives, Releases, Rebinds, TearsDown, Reports, Reads, Says, hands_out, none, refuses, Answered, arrives, releases, rebinds, tears_down, reports, Ran, done, next}
use Rattle.claim.proofs.Laws.Answers.{Said, said, said_by, said_by_arrive, said_by_release, answer_to, answers_to}

pub parses_is : {text : List ℕ} {r : Config × Result (Unit {0}) Refusal} → Parses text r → r ≡ parse_of text
parses_is (Parses.called κs a r s et h) = h ∙ ap parse_of et

pub creates_is : {cfg : DirectionConfig} {seed salt cap width : ℕ} {t : Tables} {r : Handed (Unit {0})} → Creates cfg seed salt cap width t r → r ≡ create_of cfg seed salt cap width t
creates_is (Creates.called κs a r s ec es el en ew et h) = h ∙ (λ i. create_of (ec i) (es i) (el i) (en i) (ew i) (et i))

arrives_is : {v : Device} {t : Tables} {instant : Float} {bytes : List ℕ} {route : ℕ} {r : Handed Arrived} {t' : Tables} → Arrives v t instant bytes route r t' → after r t' ≡ arrive_of v t instant bytes route
arrives_is (Arrives.called κs a r s fit ev et ei eb er h) = h.0 ∙ (λ i. arrive_of (ev i) (et i) (ei i) (eb i) (er i))
arrives_is (Arrives.called_in_place κs a r s fit ev et ei eb er h) = h.0 ∙ (λ i. arrive_of (ev i) (et i) (ei i) (eb i) (er i))

arrives_fit : {v : Device} {t : Tables} {instant : Float} {bytes : List ℕ} {route : ℕ} {r : Handed Arrived} {t' : Tables} → Arrives v t instant bytes route r t' → T (fits binary64 instant)
arrives_fit (Arrives.called κs a r s fit ev et ei eb er h) = fit
arrives_fit (Arrives.called_in_place κs a r s fit ev et ei eb er h) = fit

releases_is : {v : Device} {t : Tables} {instant : Float} {r : Handed (Option Queued)} {t' : Tables} → Releases v t instant r t' → after r t' ≡ release_of v t instant
releases_is (Releases.called κs a r s ev et ei h) = h.0 ∙ (λ i. release_of (ev i) (et i) (ei i))
releases_is (Releases.called_in_place κs a r s ev et ei h) = h.0 ∙ (λ i. release_of (ev i) (et i) (ei i))

rebinds_is : {v : Device} {instant : Float} {r : Handed Bool} → Rebinds v instant r → r ≡ rebind_of v instant
rebinds_is (Rebinds.called κs a r s ev ei h) = h ∙ (λ i. rebind_of (ev i) (ei i))
rebinds_is (Rebinds.called_in_place κs a r s ev ei h) = h ∙ (λ i. rebind_of (ev i) (ei i))

tears_is : {v : Device} {r : Handed ℕ} → TearsDown v r → r ≡ teardown_of v
tears_is (TearsDown.called κs a r s ev h) = h ∙ ap teardown_of ev
tears_is (TearsDown.called_in_place κs a r s ev h) = h ∙ ap teardown_of ev

reports_is : {v : Device} {r : Result Report RefusedReport} → Reports v r → r ≡ report_of v
reports_is (Reports.called κs a r s ev h) = h ∙ ap report_of ev

reads_is : {store : List ℕ} {width slot len : ℕ} {bytes : List ℕ} → Reads store width slot len bytes → bytes ≡ payload_of width store slot len
reads_is (Reads.called κs a r s es ew et el h) = h ∙ (λ i. payload_of (ew i) (es i) (et i) (el i))

says_is : {width : ℕ} {store : List ℕ} {a : Result (Option Queued) Refusal} {r : Answer} → Says width store a r → r ≡ said_of_release width store a
says_is (hands_out {c} h) = ap (λ (b : List ℕ). released (copy c.due_ms c.seq c.arrival_ms c.route c.copy_id c.length b)) (reads_is h)
says_is none = refl
says_is refuses = refl

pub answered_is : {v v' : Device} {t t' : Tables} {c : Call} {a : Answer} → Answered v t c a v' t' → said a v' t' ≡ answer_to v t c
unfolding answer_to
answered_is (arrives x) = ap said_by_arrive (arrives_is x)
answered_is (releases {t' = t'} {r = r} x a) = (λ i. said (says_is a i) r.0 t') ∙ ap said_by_release (releases_is x)
answered_is {t = t} (rebinds x) = ap (said_by said_of_rebind t) (rebinds_is x)
answered_is {t = t} (tears_down x) = ap (said_by said_of_teardown t) (tears_is x)
answered_is {v = v} {t = t} (reports x) = ap (λ (o : Result Report RefusedReport). said (said_of_report o) v t) (reports_is x)

pub ran_is : {v : Device} {t : Tables} {cs : List Call} {rs : List Answer} → Ran v t cs rs → rs ≡ answers_to v t cs
unfolding answers_to
ran_is done = refl
ran_is (next {a = a} {cs = cs} x ran) =
    ap (λ (l : List Answer). a ∷ l) (ran_is ran)
    ∙ ap (λ (o : Said). o.reply ∷ answers_to o.device o.tables cs) (answered_is x)

answered_binary64 : {v v' : Device} {t t' : Tables} {c : Call} {a : Answer} → Answered v t c a v' t' → Binary64Call c
answered_binary64 (arrives x) = arrives_fit x
answered_binary64 (releases x a) = tt
answered_binary64 (rebinds x) = tt
answered_binary64 (tears_down x) = tt
answered_binary64 (reports x) = tt

pub ran_binary64 : {v : Device} {t : Tables} {cs : List Call} {rs : List Answer} → Ran v t cs rs → Binary64 cs
ran_binary64 done = tt
ran_binary64 (next x ran) = (answered_binary64 x, ran_binary64 ran)
