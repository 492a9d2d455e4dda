-- THE CLAIM (demand 3 of document 01). For every option text, direction, salt, capacity and slot width, every lent memory, whatever stood in it, and every list of
-- arrive, release, rebind, teardown and report calls, refused ones included, on a device whose creation was not refused:
--
--   * the answers are the plain machine's, number for number and bit for bit, and a released copy's part of the store has the machine's bytes; only the slot in
--     which a copy lies is not compared;
--   * each released copy has the instant, the bytes and the route of the arrive call in which a copy entered with its seq;
--   * another list of calls that is alike in kinds, order, times and lengths has answers that are alike but for the bytes and routes handed out;
--   * received + duplicates = random + GE + MTU + blackout + reset + overflow + released + torn + held, counted from the answers;
--   * each report says what is counted from the answers before it, and its own numbers come out;
--   * no call is refused but by 21, 22 or 25, and a refused call leaves the device and all nine tables as they were;
--   * each device that a call hands back has the slot width that was named at creation.
--
-- The device of a refused creation has all of this too, with the machine of the default settings, the generator's seed 0, capacity 1 and slots of 2,048 bytes
-- (`refused_creation_agrees`). Of any device and any memory, altered ones too, a call that is refused by any number but 26 changes nothing
-- (`refused_changes_nothing`, demand 1). The slot width decides nothing but 22 (`two_widths`). And none of this speaks of nothing: every list of calls has a run,
-- on any device and memory (`runs_exist`), one whose calls are all by value too (`runs_by_value_exist`).
--
-- It rests on the contracts of `parse_config`, `create`, `arrive`, `release`, `payload`, `rebind`, `teardown` and `report`, each proved of its function: a run
-- (Runs) is a list of calls for which these contracts hold, each handed the device and the tables that the last one left. An instant handed to `arrive` is a
-- number of binary64, as every f64 is.
use Rattle.std.specs.Prelude.{◌≡◌, ◌≢◌, ◌⊎◌, true, List, ℕ, ◌<◌, ◌≤◌, Result, Ok, Err}
use Rattle.std.proofs.Common.{sym, ap, ◌∙◌, subst}
use Rattle.numbers.specs.Laws.Limits.{width_passes}
use Rattle.numbers.specs.Limits.{max_capacity, min_width, max_width}
use Rattle.numbers.specs.Refusals.{refused_keeping}
use Rattle.numbers.specs.declared.refusal.Refusal.{Refusal as Reason}
use Rattle.numbers.specs.declared.refusal.Refusal.TheVariants as refusal
use Rattle.judgement.specs.Settings.{is_settings_of}
use Rattle.judgement.specs.Laws.Parsed.{parse_sound}
use Rattle.options.specs.Parse.{parse_of}
use Rattle.options.specs.declared.config.Config.{Config}
use Rattle.options.specs.declared.config.DirectionConfig.{DirectionConfig}
use Rattle.queue.specs.Tables.{Tables}
use Rattle.queue_laws.specs.Laws.Keeps.{Long}
use Rattle.machine.specs.Bare.{bare_calls, bare_answers}
use Rattle.machine.specs.Calls.{Call, Answer, refused, Refusal, In, Binary64}
use Rattle.machine.specs.Machine.{Creation, host_creation, fresh_machine}
use Rattle.machine.specs.Steps.{answers}
use Rattle.machine.specs.Widths.{AllFit}
use Rattle.machine.proofs.Theorems.{count, each_own, alike, width_decides_nothing, each_report, only_three_along}
use Rattle.device.specs.Creation.{create_of}
use Rattle.device.specs.Parts.{Handed}
use Rattle.device.specs.declared.device.Device.{Device}
use Rattle.claim.specs.Creations.{new_device, refused_creation, CreationEnds}
use Rattle.claim.specs.Runs.{Parses, Creates, Answered, Ran, ByValue}
use Rattle.claim.proofs.Laws.Answers.{answers_to}
use Rattle.claim.proofs.Laws.Creation.{create_matches, create_made, create_refuses_width, create_ends, refused_device, refused_matches}
use Rattle.claim.proofs.Laws.Exist.{parses_so, creates_so, ran_so, ran_by_value}
use Rattle.claim.proofs.Laws.Matches.{Matches}
use Rattle.claim.proofs.Laws.Ran.{parses_is, creates_is, ran_is, ran_binary64}
use Rattle.claim.proofs.Laws.Refused.{answered_stays, ran_stays}
use Rattle.claim.proofs.Laws.Runs.{calls_agree, width_stays}
use Rattle.claim.specs.Claim.{Claimed, Direction, c2s, s2c, settings_of, machine_of}

-- of a device and tables that match a fresh machine
claim_of_matching : (o : Creation) {v : Device} {t : Tables} → Matches v t (fresh_machine o) → {cs : List Call} {rs : List Answer} (ran : Ran v t cs rs) → Claimed (fresh_machine o) ran
claim_of_matching o {v} {t} matching {cs} {rs} ran =
    record {
      same = same;
      own = rw same (each_own o cs);
      alike_answers = λ (ds : List Call) (e : bare_calls cs ≡ bare_calls ds). ap bare_answers same ∙ alike o cs ds e;
      counted = rw same (count o cs);
      reports = rw same (each_report o cs);
      refusals = three;
      refused_stay = ran_stays ran three;
      width_stays = width_stays ran (ran_binary64 ran) (fresh_machine o) matching;
    }
  where
    same : rs ≡ answers (fresh_machine o) cs
    same = ran_is ran ∙ calls_agree cs (ran_binary64 ran) v t (fresh_machine o) matching

    three : (k : ℕ) → In (refused k) rs → Refusal k
    three = rw same (only_three_along (fresh_machine o) cs)

-- a creation is made of what the host named, or is refused by 29, 24, 30 or 23
pub creation_ends : {cfg : DirectionConfig} {seed salt cap width : ℕ} {t : Tables} {r : Handed (Unit {0})} → Creates cfg seed salt cap width t r → CreationEnds (host_creation cfg seed salt cap width) r
creation_ends {cfg} {seed} {salt} {cap} {width} {t} c = subst (CreationEnds (host_creation cfg seed salt cap width)) (sym (creates_is c)) (create_ends cfg seed salt cap width t)

-- of any settings that a host names
pub claim_of_settings : {cfg : DirectionConfig} {seed salt cap width : ℕ} {t : Tables} {r : Handed (Unit {0})}
    → Creates cfg seed salt cap width t r → r.1 ≡ Ok tt
    → {cs : List Call} {rs : List Answer} (ran : Ran r.0 t cs rs)
    → Claimed (fresh_machine (host_creation cfg seed salt cap width)) ran
claim_of_settings {cfg} {seed} {salt} {cap} {width} {t} {r} c made ran = claim_of_matching (host_creation cfg seed salt cap width) matching ran
  where
    matching : Matches r.0 t (fresh_machine (host_creation cfg seed salt cap width))
    matching =
        subst (λ (x : Handed (Unit {0})). x.1 ≡ Ok tt → Matches x.0 t (fresh_machine (host_creation cfg seed salt cap width))) (sym (creates_is c))
        (create_matches cfg seed salt cap width t) made

-- the device of a refused creation too, over memory that is long enough for its capacity: that of the default settings, the generator's seed 0,
-- capacity 1 and slots of 2,048 bytes
pub refused_creation_agrees : {cfg : DirectionConfig} {seed salt cap width : ℕ} {t : Tables} {r : Handed (Unit {0})}
    → Creates cfg seed salt cap width t r → (e : Reason) → r.1 ≡ Err e
    → {u : Tables} → Long refused_creation.width refused_creation.capacity u
    → {cs : List Call} {rs : List Answer} (ran : Ran r.0 u cs rs)
    → Claimed (fresh_machine refused_creation) ran
refused_creation_agrees {r = r} c e says {u} long ran = claim_of_matching refused_creation matching ran
  where
    matching : Matches r.0 u (fresh_machine refused_creation)
    matching = subst (λ (v : Device). Matches v u (fresh_machine refused_creation)) (sym (refused_device _ r e (creation_ends c) says)) (refused_matches u long)

-- of the settings and the seed of an option text, as `parse_config` returned them
pub claim : {text : List ℕ} {p : Config × Result (Unit {0}) Reason} → Parses text p
    → (d : Direction) {salt cap width : ℕ} {t : Tables} {r : Handed (Unit {0})}
    → Creates (settings_of d p.0) p.0.seed salt cap width t r → r.1 ≡ Ok tt
    → {cs : List Call} {rs : List Answer} (ran : Ran r.0 t cs rs)
    → Claimed (machine_of text d salt cap width) ran
claim parses d {salt} {cap} {width} c made ran =
    subst (λ (p : Config × Result (Unit {0}) Reason). Claimed (fresh_machine (host_creation (settings_of d p.0) p.0.seed salt cap width)) ran) (parses_is parses) (claim_of_settings c made ran)

-- two runs of one text, direction, salt, capacity and slot width, each over its own memory: calls that are alike in kinds, order, times and lengths have answers
-- that are alike but for the bytes and routes handed out
pub two_runs : {text : List ℕ} {p : Config × Result (Unit {0}) Reason} → Parses text p
    → (d : Direction) {salt cap width : ℕ} {t u : Tables} {r q : Handed (Unit {0})}
    → Creates (settings_of d p.0) p.0.seed salt cap width t r → r.1 ≡ Ok tt
    → Creates (settings_of d p.0) p.0.seed salt cap width u q → q.1 ≡ Ok tt
    → {cs ds : List Call} {rs qs : List Answer} → Ran r.0 t cs rs → Ran q.0 u ds qs
    → bare_calls cs ≡ bare_calls ds → bare_answers rs ≡ bare_answers qs
two_runs parses d c made c' made' {ds = ds} ran ran' e =
    (claim parses d c made ran).alike_answers ds e
    ∙ ap bare_answers (sym (claim parses d c' made' ran').same)

-- the same two runs with two slot widths, where each packet fits both: the same calls have the same answers, so the width decides nothing but 22
pub two_widths : {text : List ℕ} {p : Config × Result (Unit {0}) Reason} → Parses text p
    → (d : Direction) {salt cap width other : ℕ} {t u : Tables} {r q : Handed (Unit {0})}
    → Creates (settings_of d p.0) p.0.seed salt cap width t r → r.1 ≡ Ok tt
    → Creates (settings_of d p.0) p.0.seed salt cap other u q → q.1 ≡ Ok tt
    → {cs : List Call} {rs qs : List Answer} → Ran r.0 t cs rs → Ran q.0 u cs qs
    → AllFit width cs → AllFit other cs → rs ≡ qs
two_widths {text} parses d {salt} {cap} {width} {other} c made c' made' {cs} ran ran' fit fit' =
    (claim parses d c made ran).same
    ∙ sym (width_decides_nothing (host_creation (settings_of d (parse_of text).0) (parse_of text).0.seed salt cap width) other cs fit fit')
    ∙ sym (claim parses d c' made' ran').same

-- the settings of a text pass 29
text_judged : {text : List ℕ} {p : Config × Result (Unit {0}) Reason} → Parses text p → (d : Direction) → is_settings_of (settings_of d p.0) ≡ true
text_judged {text} parses c2s = subst (λ (x : Config × Result (Unit {0}) Reason). is_settings_of x.0.c2s ≡ true) (sym (parses_is parses)) (parse_sound text).c2s_judged
text_judged {text} parses s2c = subst (λ (x : Config × Result (Unit {0}) Reason). is_settings_of x.0.s2c ≡ true) (sym (parses_is parses)) (parse_sound text).s2c_judged

-- whatever the text, a creation with a capacity from 1 to 1,048,576, a slot width from 64 to 9,216 and memory that is long enough for them is not refused
pub text_creates : {text : List ℕ} {p : Config × Result (Unit {0}) Reason} → Parses text p
    → (d : Direction) {salt cap width : ℕ} {t : Tables} {r : Handed (Unit {0})}
    → 0 < cap → cap ≤ max_capacity → min_width ≤ width → width ≤ max_width → Long width cap t
    → Creates (settings_of d p.0) p.0.seed salt cap width t r → r.1 ≡ Ok tt
text_creates {text} {p} parses d {salt} {cap} {width} {t} low high narrowest widest long c =
    ap (λ (x : Handed (Unit {0})). x.1) (creates_is c)
    ∙ create_made (settings_of d p.0) p.0.seed salt cap width t (text_judged parses d) low high (width_passes width narrowest widest) long

-- and with any other slot width it is refused by 30, whatever the memory is
pub text_width_refused : {text : List ℕ} {p : Config × Result (Unit {0}) Reason} → Parses text p
    → (d : Direction) {salt cap width : ℕ} {t : Tables} {r : Handed (Unit {0})}
    → 0 < cap → cap ≤ max_capacity → (width < min_width) ⊎ (max_width < width)
    → Creates (settings_of d p.0) p.0.seed salt cap width t r → r ≡ (new_device refused_creation, Err refusal.Width)
text_width_refused {text} {p} parses d {salt} {cap} {width} {t} low high out c =
    creates_is c ∙ create_refuses_width (settings_of d p.0) p.0.seed salt cap width t (text_judged parses d) low high out

-- ---- demand 1, of any device and any memory

-- a call that is refused by any number but 26 hands back the device as it was and leaves all nine tables as they were
pub refused_changes_nothing : {v v' : Device} {t t' : Tables} {c : Call} {k : ℕ} → Answered v t c (refused k) v' t' → k ≢ refused_keeping → (v' ≡ v) × (t' ≡ t)
refused_changes_nothing = answered_stays

-- ---- the claim speaks of something: a call is answered, whatever it is handed

pub parse_exists : (text : List ℕ) → (p : Config × Result (Unit {0}) Reason) × Parses text p
parse_exists text = (parse_of text, parses_so text)

pub creation_exists : (cfg : DirectionConfig) (seed salt cap width : ℕ) (t : Tables) → (r : Handed (Unit {0})) × Creates cfg seed salt cap width t r
creation_exists cfg seed salt cap width t = (create_of cfg seed salt cap width t, creates_so cfg seed salt cap width t)

-- every list of calls has a run
pub runs_exist : (v : Device) (t : Tables) (cs : List Call) → Binary64 cs → (rs : List Answer) × Ran v t cs rs
runs_exist v t cs fit = (answers_to v t cs, ran_so v t cs fit)

-- and one in which each call is made by value
pub runs_by_value_exist : (v : Device) (t : Tables) (cs : List Call) → Binary64 cs → (rs : List Answer) × ((ran : Ran v t cs rs) × ByValue ran)
runs_by_value_exist v t cs fit = (answers_to v t cs, ran_by_value v t cs fit)
