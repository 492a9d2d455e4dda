-- What each call gives for any engine and arguments: the engine that comes back, and beside it the answer or the refusal. A refused call hands back the
-- engine that it was given; a refused creation gives the engine of the default settings with the generator's seed 0.
use Rattle.std.specs.Prelude.{Bool, true, false, cond, ◌||◌, ℕ, Float, take, Result, Ok, Err}
use Rattle.std.specs.Float.Ieee.{le}
use Rattle.numbers.specs.declared.refusal.Refusal.{Refusal}
use Rattle.numbers.specs.declared.refusal.Refusal.TheVariants as refusal
use Rattle.options.specs.Config.{default_direction}
use Rattle.judgement.specs.Settings.{is_settings_of}
use Rattle.options.specs.declared.config.DirectionConfig.{DirectionConfig}
use Rattle.steps.specs.Gate.{kill_now_of, any_window_of}
use Rattle.steps.specs.declared.decision.Decision.{Decision}
use Rattle.engine.specs.Changes.{rebound_of, overflowed_of}
use Rattle.engine.specs.Decide.{decide_passed_of}
use Rattle.engine.specs.Engine.{fresh_of}
use Rattle.engine.specs.Refusals.{arrival_refusal, instant_refusal, plain_refusal}
use Rattle.engine.specs.declared.engine.ArrivalEngine.{ArrivalEngine}

unfoldable pub new_engine_of : DirectionConfig → ℕ → ArrivalEngine × Result (Unit {0}) Refusal
new_engine_of cfg seed = cond (is_settings_of cfg) (fresh_of cfg seed, Ok tt) (fresh_of default_direction 0, Err refusal.Settings)

-- an answer where the call passes its tests, else the refusal
abbrev pub told : {A : Type 0} → Result (Unit {0}) Refusal → A → Result A Refusal
told (Ok u) answer = Ok answer
told (Err k) answer = Err k

-- the engine e before a call, or the engine and the answer after it where the call passes its tests
abbrev pub called : {A : Type 0} → Result (Unit {0}) Refusal → ArrivalEngine → ArrivalEngine × A → ArrivalEngine × Result A Refusal
called (Ok u) e after = (after.0, Ok after.1)
called (Err k) e after = (e, Err k)

-- an arrival at an engine whose settings pass 29 or not
unfoldable pub decide_given_of : Bool → ArrivalEngine → Float → ℕ → ArrivalEngine × Result Decision Refusal
decide_given_of settings e now len = called (arrival_refusal settings e now len) e (decide_passed_of e now len)

abbrev pub decide_of : ArrivalEngine → Float → ℕ → ArrivalEngine × Result Decision Refusal
decide_of e now len = decide_given_of (is_settings_of e.cfg) e now len

-- the same without 29, for an engine whose settings were judged when it was made
abbrev pub decide_unchecked_of : ArrivalEngine → Float → ℕ → ArrivalEngine × Result Decision Refusal
decide_unchecked_of e now len = decide_given_of true e now len

unfoldable pub should_rebind_now_of : ArrivalEngine → Float → ArrivalEngine × Result Bool Refusal
should_rebind_now_of e now = called (instant_refusal e now) e (cond (le e.next_rebind_ms now) (rebound_of e, true) (e, false))

unfoldable pub rst_now_of : ArrivalEngine → Float → Result Bool Refusal
rst_now_of e now = told (instant_refusal e now) (kill_now_of true (take e.cfg.tcp_kill_count e.cfg.tcp_kills) now)

unfoldable pub hold_now_of : ArrivalEngine → Float → Result Bool Refusal
hold_now_of e now =
    told (instant_refusal e now)
    (kill_now_of false (take e.cfg.tcp_kill_count e.cfg.tcp_kills) now || any_window_of (take e.cfg.blackout_count e.cfg.blackouts) now)

unfoldable pub stats_inc_overflow_of : ArrivalEngine → ArrivalEngine × Result (Unit {0}) Refusal
stats_inc_overflow_of e = called (plain_refusal e) e (overflowed_of e 1, tt)
