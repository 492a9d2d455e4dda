-- With settings that 29 lets through and a width that 30 does the engine stays sound, and so each held copy has a due that is a number, not before its arrival.
use Rattle.std.specs.Prelude.{◌≡◌, true, List, [], ◌∷◌, ◌++◌, ℕ, ◌≤◌, ltb, Float, length}
use Rattle.std.proofs.Common.{⊎_elim, le_trans, leb-true}
use Rattle.numbers.specs.Laws.Bounded.{instant_bounded}
use Rattle.numbers.specs.Laws.NotNan.{cond_has}
use Rattle.numbers.specs.Limits.{max_width}
use Rattle.judgement.specs.Settings.{is_settings_of}
use Rattle.steps.proofs.Sound.{From, DueFrom}
use Rattle.steps.specs.declared.decision.Decision.{Decision}
use Rattle.steps.specs.declared.decision.Decision.TheVariants.{DropRandom, DropGe, DropMtu, DropBlackout, DropKillHold, Enqueue, KillRst}
use Rattle.engine.specs.Laws.Sound.{SoundEngine, fresh_sound, overflowed_sound, rebound_sound, passed_sound}
use Rattle.held.specs.Copies.{Copy, without, Mem}
use Rattle.held.specs.Laws.Least.{mem_last, mem_without}
use Rattle.machine.specs.Machine.{Machine, Creation, fresh_machine}
use Rattle.machine.specs.Calls.{Call, Binary64Call, Binary64}
use Rattle.machine.specs.Steps.{Step, Entry, enter_copy, follow, step, after_all}
use Rattle.machine.proofs.Laws.Cases.{Does, refuses, decides, releases, finds_none, rebinds, address_stays, tears, reports, step_does, enters_have}

-- each copy of a list has a due that is a number, not before its arrival
abbrev pub SoundDues : List Copy → Type 0
SoundDues l = (c : Copy) → Mem c l → From c.arrival c.due

pub record SoundMachine (m : Machine) : Type 0 where
  pub engine : SoundEngine m.engine
  pub narrow : m.width ≤ max_width
  pub dues : SoundDues m.held

-- ---- lists

no_dues : SoundDues []
no_dues c k = absurd k

dues_last : (l : List Copy) (x : Copy) → SoundDues l → From x.arrival x.due → SoundDues (l ++ (x ∷ []))
dues_last l x h from c k = ⊎_elim (h c) (λ (same : c ≡ x). rw same from) (mem_last l x c k)

dues_without : (seq : ℕ) (l : List Copy) → SoundDues l → SoundDues (without seq l)
dues_without seq l h c k = h c (mem_without seq l c k)

-- ---- steps

enter_sound : {due now : Float} (route : ℕ) (bytes : List ℕ) → From now due → (id : ℕ) (e : Entry) → SoundMachine e.then → SoundMachine (enter_copy due now route bytes id e).then
unfolding enter_copy
enter_sound route bytes from id e h =
    cond_has (λ (n : Entry). SoundMachine n.then) (ltb (length e.then.held) e.then.cap)
    (record { engine = h.engine; narrow = h.narrow; dues = dues_last e.then.held _ h.dues from })
    (record { engine = overflowed_sound e.then.engine 1 h.engine; narrow = h.narrow; dues = h.dues })

follow_sound : (m : Machine) (d : Decision) (now : Float) (bytes : List ℕ) (route : ℕ) → SoundMachine m → DueFrom now d → SoundMachine (follow m d now bytes route).then
unfolding follow
follow_sound m DropRandom now bytes route h from = h
follow_sound m DropGe now bytes route h from = h
follow_sound m DropMtu now bytes route h from = h
follow_sound m DropBlackout now bytes route h from = h
follow_sound m DropKillHold now bytes route h from = h
follow_sound m (Enqueue due duplicated) now bytes route h from = enters_have (λ (e : Entry). SoundMachine e.then) m due duplicated now bytes route (enter_sound route bytes from) h
follow_sound m KillRst now bytes route h from = record { engine = h.engine; narrow = h.narrow; dues = no_dues }

does_sound : {m : Machine} {c : Call} {s : Step} → Does m c s → Binary64Call c → SoundMachine m → SoundMachine s.then
does_sound (refuses c k r) fit h = h
does_sound {m} (decides now bytes route instant short) fit h =
    let after = passed_sound m.engine now (length bytes) h.engine (record { fit = fit; bounded = instant_bounded now instant; short = le_trans (leb-true (length bytes) m.width short) h.narrow }) in
    follow_sound _ _ now bytes route (record { engine = after.0; narrow = h.narrow; dues = h.dues }) after.1
does_sound {m} (releases now c k) fit h = record { engine = h.engine; narrow = h.narrow; dues = dues_without c.seq m.held h.dues }
does_sound (finds_none now) fit h = h
does_sound {m} (rebinds now) fit h = record { engine = rebound_sound m.engine h.engine; narrow = h.narrow; dues = h.dues }
does_sound (address_stays now) fit h = h
does_sound tears fit h = record { engine = h.engine; narrow = h.narrow; dues = no_dues }
does_sound reports fit h = h

-- ---- lists of calls

pub all_sound : (m : Machine) → SoundMachine m → (cs : List Call) → Binary64 cs → SoundMachine (after_all m cs)
unfolding after_all
all_sound m h [] fit = h
all_sound m h (c ∷ cs) fit = all_sound (step m c).then (does_sound (step_does m c) fit.0 h) cs fit.1

pub fresh_machine_sound : (made : Creation) → is_settings_of made.settings ≡ true → made.width ≤ max_width → SoundMachine (fresh_machine made)
unfolding fresh_machine
fresh_machine_sound made h narrow = record { engine = fresh_sound made.settings made.generator_seed h; narrow = narrow; dues = no_dues }
