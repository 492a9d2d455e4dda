-- Settings that refusal 29 lets through keep the credit finite, with a debt of at most 2 ^ 70, so no due is ever a NaN or before its arrival.
use Rattle.std.specs.Prelude.{◌≡◌, true, List, [], ◌∷◌, ℕ, ◌≤◌, T, pos, Float, Result, Ok, Err}
use Rattle.std.proofs.Common.{arith}
use Rattle.std.specs.Float.{binary64}
use Rattle.std.specs.Float.Ieee.{fits}
use Rattle.std.specs.Float.Ieee.Bits.{is_true}
use Rattle.std.specs.Float.Ieee.Fits.{of_int-fits}
use Rattle.numbers.specs.Instant.{is_instant_of}
use Rattle.numbers.specs.Limits.{max_length, is_length_of}
use Rattle.numbers.specs.Laws.Both.{both_true}
use Rattle.numbers.specs.Laws.Bounded.{Bounded, instant_bounded, whole_bounded}
use Rattle.numbers.specs.Laws.Limits.{length_within}
use Rattle.numbers.specs.Laws.NotNan.{cond_when}
use Rattle.options.specs.Config.{default_direction}
use Rattle.values.specs.Whole.{is_bounded}
use Rattle.settings.specs.Judgement.{is_probability, is_time, is_ge}
use Rattle.judgement.specs.Settings.{is_settings_of}
use Rattle.judgement.specs.Laws.Parsed.{default_judged}
use Rattle.options.specs.declared.config.DirectionConfig.{DirectionConfig}
use Rattle.steps.specs.Laws.Credit.{full_credit}
use Rattle.steps.proofs.Sound.{SoundScalars, SoundState, DueFrom, arrived_sound}
use Rattle.judgement.specs.Scalars.{is_rate, are_scalars_of}
use Rattle.engine.specs.Calls.{new_engine_of, decide_given_of, decide_of}
use Rattle.engine.specs.Changes.{with_overflow, overflowed_of, rebound_of}
use Rattle.engine.specs.Decide.{after_of, decide_passed_of}
use Rattle.engine.specs.Engine.{fresh_of, state_of}
use Rattle.engine.specs.Laws.Refusals.{no_refusal, called_has}
use Rattle.engine.specs.Refusals.{arrival_refusal}
use Rattle.numbers.specs.declared.refusal.Refusal.{Refusal}
use Rattle.steps.specs.declared.decision.Decision.{Decision}
use Rattle.engine.specs.declared.engine.ArrivalEngine.{ArrivalEngine}

pub record SoundEngine (e : ArrivalEngine) : Type 0 where
  pub settings : is_settings_of e.cfg ≡ true
  pub state : SoundState (state_of e)

settings_sound : (cfg : DirectionConfig) → is_settings_of cfg ≡ true → SoundScalars cfg
unfolding is_settings_of are_scalars_of
settings_sound cfg h =
    let scalars = both_true (are_scalars_of cfg) _ h in
    let loss = both_true (is_probability cfg.loss) _ scalars.0 in
    let ge = both_true (is_ge cfg.ge) _ loss.1 in
    let delay = both_true (is_time cfg.delay_ms) _ ge.1 in
    let jitter = both_true (is_time cfg.jitter_ms) _ delay.1 in
    let reorder = both_true (is_probability cfg.reorder_p) _ jitter.1 in
    let reorder_delay = both_true (is_time cfg.reorder_delay_ms) _ reorder.1 in
    let duplicate = both_true (is_probability cfg.duplicate_p) _ reorder_delay.1 in
    let rate = both_true (is_rate cfg.rate_bps) _ duplicate.1 in
    let burst = both_true (is_bounded cfg.rate_burst_bytes) _ rate.1 in
    record { delay = delay.0; jitter = jitter.0; reorder_delay = reorder_delay.0; rate = rate.0; burst = burst.0 }

pub fresh_sound : (cfg : DirectionConfig) (seed : ℕ) → is_settings_of cfg ≡ true → SoundEngine (fresh_of cfg seed)
unfolding fresh_of state_of
fresh_sound cfg seed h =
    let s = settings_sound cfg h in
    record {
      settings = h;
      state = record {
        credit = full_credit cfg.rate_bps cfg.rate_burst_bytes s.rate s.burst;
        last_fit = of_int-fits binary64 (pos 0);
        last = whole_bounded 0 (omega arith);
      };
    }

-- every new engine, that of a refused creation too
pub new_sound : (cfg : DirectionConfig) (seed : ℕ) → SoundEngine (new_engine_of cfg seed).0
unfolding new_engine_of
new_sound cfg seed =
    cond_when (λ (c : ArrivalEngine × Result (Unit {0}) Refusal). SoundEngine c.0) (is_settings_of cfg) (λ t. fresh_sound cfg seed (is_true (is_settings_of cfg) t))
    (fresh_sound default_direction 0 default_judged)

-- what is counted, and the next rebind, are no part of what keeps an engine sound
pub overflowed_sound : (e : ArrivalEngine) (n : ℕ) → SoundEngine e → SoundEngine (overflowed_of e n)
unfolding with_overflow state_of
overflowed_sound e n s = record { settings = s.settings; state = s.state }

pub rebound_sound : (e : ArrivalEngine) → SoundEngine e → SoundEngine (rebound_of e)
unfolding rebound_of state_of
rebound_sound e s = record { settings = s.settings; state = s.state }

-- ---- one arrival

-- an instant and a length that 21 and 22 let through, at which the credit stays bounded
pub record Permitted (now : Float) (len : ℕ) : Type 0 where
  pub fit : T (fits binary64 now)
  pub bounded : Bounded now
  pub short : len ≤ max_length

pub passed_sound : (e : ArrivalEngine) (now : Float) (len : ℕ) → SoundEngine e → Permitted now len
    → SoundEngine (decide_passed_of e now len).0 × DueFrom now (decide_passed_of e now len).1
unfolding decide_passed_of after_of state_of
passed_sound e now len s a =
    let after = arrived_sound _ e.cfg _ now len (settings_sound e.cfg s.settings) s.state a.fit a.bounded a.short in
    (record { settings = s.settings; state = after.0 }, after.1)

-- the due of an answer
abbrev pub DueAnswered : Float → Result Decision Refusal → Type 0
DueAnswered now (Ok d) = DueFrom now d
DueAnswered now (Err k) = Unit {0}

-- a call of `decide`, refused or not
pub decide_sound : (e : ArrivalEngine) (now : Float) (len : ℕ) → SoundEngine e → T (fits binary64 now)
    → SoundEngine (decide_of e now len).0 × DueAnswered now (decide_of e now len).1
unfolding decide_given_of
decide_sound e now len s fit =
    called_has (λ (r : ArrivalEngine × Result Decision Refusal). SoundEngine r.0 × DueAnswered now r.1) (arrival_refusal (is_settings_of e.cfg) e now len) e (decide_passed_of e now len)
    (λ p.
    let ok = no_refusal (is_settings_of e.cfg) e (is_instant_of now) (is_length_of len) p in
    passed_sound e now len s (record { fit = fit; bounded = instant_bounded now ok.instant_passes; short = length_within len ok.length_passes }))
    (λ k. (s, tt))

-- ---- every sequence of arrivals

-- each due of a sequence of arrivals, one engine handed on from each to the next
abbrev pub DuesAlong : ArrivalEngine → List (Float × ℕ) → Type 0
DuesAlong e [] = Unit {0}
DuesAlong e (a ∷ l) = DueFrom a.0 (decide_passed_of e a.0 a.1).1 × DuesAlong (decide_passed_of e a.0 a.1).0 l

abbrev pub AllPermitted : List (Float × ℕ) → Type 0
AllPermitted [] = Unit {0}
AllPermitted (a ∷ l) = Permitted a.0 a.1 × AllPermitted l

-- the engine after a sequence of arrivals
abbrev pub after_all : ArrivalEngine → List (Float × ℕ) → ArrivalEngine
after_all e [] = e
after_all e (a ∷ l) = after_all (decide_passed_of e a.0 a.1).0 l

pub arrivals_sound : (e : ArrivalEngine) (l : List (Float × ℕ)) → SoundEngine e → AllPermitted l → SoundEngine (after_all e l)
arrivals_sound e [] s h = s
arrivals_sound e (a ∷ l) s h = arrivals_sound (decide_passed_of e a.0 a.1).0 l (passed_sound e a.0 a.1 s h.0).0 h.1

pub dues_sound : (e : ArrivalEngine) (l : List (Float × ℕ)) → SoundEngine e → AllPermitted l → DuesAlong e l
dues_sound e [] s h = tt
dues_sound e (a ∷ l) s h = let after = passed_sound e a.0 a.1 s h.0 in (after.1, dues_sound (decide_passed_of e a.0 a.1).0 l after.0 h.1)
