-- For every list of calls on a device that matches a machine, each answer is the machine's, and each device that is handed on has the machine's width.
use Rattle.std.specs.Prelude.{◌≡◌, refl, List, [], ◌∷◌, ℕ}
use Rattle.std.proofs.Common.{sym, ap, ◌∙◌, subst}
use Rattle.queue.specs.Tables.{Tables}
use Rattle.machine.specs.Calls.{Call, arrive, release, rebind, teardown, report, Answer, Binary64Call, Binary64}
use Rattle.machine.specs.Machine.{Machine}
use Rattle.machine.specs.Steps.{step, answers}
use Rattle.device.specs.declared.device.Device.{Device}
use Rattle.machine.proofs.Laws.Widths.{step_width}
use Rattle.claim.specs.Runs.{Ran, done, next, WidthStays}
use Rattle.claim.proofs.Laws.Answers.{Said, answer_to, answers_to}
use Rattle.claim.proofs.Laws.Ran.{answered_is}
use Rattle.claim.proofs.Laws.Matches.{Matches}
use Rattle.claim.proofs.Laws.Agree.{Agrees}
use Rattle.claim.proofs.Laws.Arrive.{arrive_matches}
use Rattle.claim.proofs.Laws.Release.{release_matches}
use Rattle.claim.proofs.Laws.Others.{rebind_matches, teardown_matches, report_matches}

pub call_agrees : (v : Device) (t : Tables) (m : Machine) → Matches v t m → (c : Call) → Binary64Call c → Agrees (answer_to v t c) (step m c)
unfolding answer_to
call_agrees v t m k (arrive now bytes route) fit = arrive_matches v t m k now bytes route fit
call_agrees v t m k (release now) fit = release_matches v t m k now
call_agrees v t m k (rebind now) fit = rebind_matches v t m k now
call_agrees v t m k teardown fit = teardown_matches v t m k
call_agrees v t m k report fit = report_matches v t m k

pub calls_agree : (cs : List Call) → Binary64 cs → (v : Device) (t : Tables) (m : Machine) → Matches v t m → answers_to v t cs ≡ answers m cs
unfolding answers_to answers
calls_agree [] fit v t m k = refl
calls_agree (c ∷ cs) fit v t m k =
    let a = call_agrees v t m k c fit.0 in
    ap (λ (r : Answer). r ∷ answers_to (answer_to v t c).device (answer_to v t c).tables cs) a.says
    ∙ ap (λ (l : List Answer). (step m c).answer ∷ l) (calls_agree cs fit.1 _ _ _ a.matches)

pub width_stays : {v : Device} {t : Tables} {cs : List Call} {rs : List Answer} (ran : Ran v t cs rs) → Binary64 cs → (m : Machine) → Matches v t m → WidthStays m.width ran
width_stays done fit m k = tt
width_stays (next {v} {v'} {t} {t'} {c} {a} {cs} {rs} call ran) fit m k =
    let then : Matches v' t' (step m c).then = subst (λ (o : Said). Matches o.device o.tables (step m c).then) (sym (answered_is call)) (call_agrees v t m k c fit.0).matches in
    (then.queue.same_width ∙ step_width m c, subst (λ (w : ℕ). WidthStays w ran) (step_width m c) (width_stays ran fit.1 (step m c).then then))
