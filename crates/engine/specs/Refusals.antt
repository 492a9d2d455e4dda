-- Which refusal meets a call, in document 01's order ("Who can cause a refusal"). A test that does not apply to a call is passed.
use Rattle.std.specs.Prelude.{Bool, true, ◌&&◌, List, [], ◌∷◌, ℕ, Float, Result}
use Rattle.numbers.specs.Checks.{Test, test, first_refusal}
use Rattle.numbers.specs.Limits.{is_counter_of, is_length_of}
use Rattle.numbers.specs.Instant.{is_instant_of}
use Rattle.numbers.specs.declared.refusal.Refusal.{Refusal}
use Rattle.numbers.specs.declared.refusal.Refusal.TheVariants as refusal
use Rattle.accounts.specs.Counters.{are_counters, stats_counters}
use Rattle.judgement.specs.Settings.{is_settings_of}
use Rattle.engine.specs.declared.engine.ArrivalEngine.{ArrivalEngine}

-- the tests of a call, each passed or not
abbrev pub engine_checks : Bool → Bool → Bool → Bool → List Test
engine_checks settings instant short counters = test settings refusal.Settings ∷ test instant refusal.Instant ∷ test short refusal.Length ∷ test counters refusal.Counter ∷ []

-- the counters that 25 judges: the rebinds done, and all of the statistics
abbrev pub counters_pass : ArrivalEngine → Bool
counters_pass e = is_counter_of e.rebinds_done && are_counters (stats_counters e.stats)

-- what meets a call on an engine, whose settings, instant and length pass or not
unfoldable pub judged_given_of : Bool → ArrivalEngine → Bool → Bool → Result (Unit {0}) Refusal
judged_given_of settings e instant short = first_refusal (engine_checks settings instant short (counters_pass e))

abbrev pub judged_of : ArrivalEngine → Bool → Bool → Result (Unit {0}) Refusal
judged_of e instant short = judged_given_of (is_settings_of e.cfg) e instant short

-- a call with an instant and a length, one with an instant, one with neither
abbrev pub arrival_refusal : Bool → ArrivalEngine → Float → ℕ → Result (Unit {0}) Refusal
arrival_refusal settings e now len = judged_given_of settings e (is_instant_of now) (is_length_of len)

abbrev pub instant_refusal : ArrivalEngine → Float → Result (Unit {0}) Refusal
instant_refusal e now = judged_of e (is_instant_of now) true

abbrev pub plain_refusal : ArrivalEngine → Result (Unit {0}) Refusal
plain_refusal e = judged_of e true true
