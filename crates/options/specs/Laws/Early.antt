-- The bytes, the arguments, the options of the line and those of a direction are refused before the mode checks, if at all.
use Rattle.std.specs.Prelude.{refl, ◌&&◌, ltb, length, Option, Result, List, ℕ, Float}
use Rattle.std.specs.Float.Ieee.{lt, le}
use Rattle.args.specs.Arguments.{last_value_of}
use Rattle.args.specs.Laws.Early.{arguments_early}
use Rattle.numbers.specs.Laws.Results.{then_refused, read_refused, or_refused, cond_refused}
use Rattle.numbers.specs.Refusals.{BeforeModeChecks, EarlyIfRefused}
use Rattle.numbers.specs.Results.{and_then, read_if, read_or}
use Rattle.numbers.specs.Whole.{whole}
use Rattle.numbers.specs.declared.refusal.Refusal.{Refusal}
use Rattle.values.specs.Bytes.{bytes, same}
use Rattle.values.specs.Decimal.{parse_f64_ms_of, parse_prob_of}
use Rattle.values.specs.Laws.Early.{whole_early, bounded_early, positive_early, time_early, probability_early}
use Rattle.values.specs.Whole.{parse_u64_of, parse_bounded_of, parse_positive_of}
use Rattle.settings.specs.Bursts.{parse_ge_of}
use Rattle.settings.specs.Laws.Early.{ge_early, window_early, kill_early}
use Rattle.settings.proofs.EarlyEntries.{list_early}
use Rattle.settings.specs.Windows.{no_window, no_kill, parse_window_of, parse_kill_of}
use Rattle.options.specs.declared.mode.Mode.TheVariants.{Udp}
use Rattle.options.specs.Config.{default_seed, default_queue_cap}
use Rattle.options.specs.Directions.{value_at, list_at, losses_of, delay_and_jitter_of, delayed_of, reorder_delay_of, reordering_of, delays_of, rate_and_burst_of, mtu_of, limits_of, schedules_of, direction_of}
use Rattle.options.specs.Modes.{parse_mode_of}
use Rattle.options.specs.Parse.{most_bytes, any_high, unclosed_of, judged_text_of}
use Rattle.options.specs.Scalars.{mode_and_seed_of, duration_of, queue_cap_of, line_scalars_of}

-- what is read, and then what follows it
then_early : {A B : Type 0} (r : Result A Refusal) (g : A → Result B Refusal) → EarlyIfRefused r → ((x : A) → EarlyIfRefused (g x)) → EarlyIfRefused (and_then r g)
then_early r g h k = then_refused BeforeModeChecks r g h (λ x e. k x)

-- an option that something stands in for where it is absent, and then what follows it
or_early : {A B : Type 0} (f : List ℕ → Result A Refusal) (other : A) (o : Option (List ℕ)) (g : A → Result B Refusal)
    → ((v : List ℕ) → EarlyIfRefused (f v)) → ((x : A) → EarlyIfRefused (g x)) → EarlyIfRefused (and_then (read_or f other o) g)
or_early f other o g h k = then_early (read_or f other o) g (or_refused BeforeModeChecks f other o h) k

-- an option that may be absent, and then what follows it
if_early : {A B : Type 0} (f : List ℕ → Result A Refusal) (o : Option (List ℕ)) (g : Option A → Result B Refusal)
    → ((v : List ℕ) → EarlyIfRefused (f v)) → ((x : Option A) → EarlyIfRefused (g x)) → EarlyIfRefused (and_then (read_if f o) g)
if_early f o g h k = then_early (read_if f o) g (read_refused BeforeModeChecks f o h) k

pub text_early : (s : List ℕ) → EarlyIfRefused (judged_text_of s)
unfolding judged_text_of
text_early s =
    cond_refused BeforeModeChecks (ltb most_bytes (length s)) _ _ refl
    (cond_refused BeforeModeChecks (unclosed_of s) _ _ refl
    (cond_refused BeforeModeChecks (any_high s) _ _ refl (arguments_early s)))

mode_early : (v : List ℕ) → EarlyIfRefused (parse_mode_of v)
mode_early v = cond_refused BeforeModeChecks (same v (bytes "udp")) _ _ tt (cond_refused BeforeModeChecks (same v (bytes "tcp")) _ _ tt refl)

mode_and_seed_early : (s : List ℕ) → EarlyIfRefused (mode_and_seed_of s)
unfolding mode_and_seed_of
mode_and_seed_early s =
    or_early parse_mode_of Udp (last_value_of (bytes "mode") s) _ mode_early (λ _.
    or_early parse_u64_of default_seed (last_value_of (bytes "seed") s) _ whole_early (λ _. tt))

pub line_early : (s : List ℕ) → EarlyIfRefused (line_scalars_of s)
unfolding line_scalars_of duration_of queue_cap_of
line_early s =
    then_early (mode_and_seed_of s) _ (mode_and_seed_early s) (λ _.
    or_early parse_bounded_of 0 (last_value_of (bytes "duration-ms") s) _ bounded_early (λ _.
    or_early parse_positive_of default_queue_cap (last_value_of (bytes "queue-cap") s) _ positive_early (λ _. tt)))

losses_early : (s prefix : List ℕ) → EarlyIfRefused (losses_of s prefix)
unfolding losses_of
losses_early s prefix =
    or_early parse_prob_of (whole 0) (value_at s prefix "loss") _ probability_early (λ _.
    if_early parse_ge_of (value_at s prefix "ge") _ ge_early (λ _. tt))

delay_early : (s prefix : List ℕ) → EarlyIfRefused (delay_and_jitter_of s prefix)
unfolding delay_and_jitter_of
delay_early s prefix =
    or_early parse_f64_ms_of (whole 0) (value_at s prefix "delay-ms") _ time_early (λ _.
    or_early parse_f64_ms_of (whole 0) (value_at s prefix "jitter-ms") _ time_early (λ _. tt))

delayed_early : (reorder delay : Float) → EarlyIfRefused (delayed_of reorder delay)
unfolding delayed_of
delayed_early reorder delay = cond_refused BeforeModeChecks (lt (whole 0) reorder && le delay (whole 0)) _ _ refl tt

reordering_early : (s prefix : List ℕ) → EarlyIfRefused (reordering_of s prefix)
unfolding reordering_of reorder_delay_of
reordering_early s prefix =
    or_early parse_prob_of (whole 0) (value_at s prefix "reorder") _ probability_early (λ p.
    or_early parse_f64_ms_of (whole 0) (value_at s prefix "reorder-delay-ms") _ time_early (λ d. delayed_early p d))

delays_early : (s prefix : List ℕ) → EarlyIfRefused (delays_of s prefix)
unfolding delays_of
delays_early s prefix =
    then_early (delay_and_jitter_of s prefix) _ (delay_early s prefix) (λ _.
    then_early (reordering_of s prefix) _ (reordering_early s prefix) (λ _. tt))

rate_early : (s prefix : List ℕ) → EarlyIfRefused (rate_and_burst_of s prefix)
unfolding rate_and_burst_of
rate_early s prefix =
    if_early parse_positive_of (value_at s prefix "rate-bps") _ positive_early (λ _.
    or_early parse_bounded_of 0 (value_at s prefix "rate-burst-bytes") _ bounded_early (λ _. tt))

limits_early : (s prefix : List ℕ) → EarlyIfRefused (limits_of s prefix)
unfolding limits_of mtu_of
limits_early s prefix =
    or_early parse_prob_of (whole 0) (value_at s prefix "duplicate") _ probability_early (λ _.
    then_early (rate_and_burst_of s prefix) _ (rate_early s prefix) (λ _.
    if_early parse_positive_of (value_at s prefix "mtu") _ positive_early (λ _. tt)))

schedules_early : (s prefix : List ℕ) → EarlyIfRefused (schedules_of s prefix)
unfolding schedules_of
schedules_early s prefix =
    then_early (list_at s prefix parse_window_of no_window "blackout") _ (list_early parse_window_of no_window _ window_early) (λ _.
    or_early parse_positive_of 0 (value_at s prefix "nat-change-every-ms") _ positive_early (λ _.
    then_early (list_at s prefix parse_kill_of no_kill "kill") _ (list_early parse_kill_of no_kill _ kill_early) (λ _. tt)))

pub direction_early : (s prefix : List ℕ) → EarlyIfRefused (direction_of s prefix)
unfolding direction_of
direction_early s prefix =
    then_early (losses_of s prefix) _ (losses_early s prefix) (λ _.
    then_early (delays_of s prefix) _ (delays_early s prefix) (λ _.
    then_early (limits_of s prefix) _ (limits_early s prefix) (λ _.
    then_early (schedules_of s prefix) _ (schedules_early s prefix) (λ _. tt))))
