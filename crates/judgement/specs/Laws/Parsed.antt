-- Whatever `parse_config` answers, its settings pass the judgement of refusal 29.
use Rattle.std.specs.Prelude.{◌≡◌, refl, Bool, true, false, cond, Option, Some, None, Result, Ok, Err, IfOk, IfSome, List, ℕ, Float}
use Rattle.std.proofs.Common.{arith}
use Rattle.std.specs.Float.Ieee.{le, of_int}
use Rattle.numbers.specs.Laws.Both.{both}
use Rattle.numbers.specs.Laws.Results.{Any, any_taken, then_taken, read_taken}
use Rattle.numbers.specs.Results.{read_if, read_or}
use Rattle.numbers.specs.Whole.{whole}
use Rattle.numbers.specs.declared.refusal.Refusal.{Refusal}
use Rattle.numbers.specs.declared.refusal.Refusal.TheVariants as refusal
use Rattle.values.specs.Bytes.{bytes}
use Rattle.values.specs.Decimal.{parse_f64_ms_of, parse_prob_of}
use Rattle.values.specs.Whole.{is_bounded, parse_bounded_of, parse_positive_of}
use Rattle.args.specs.Arguments.{last_value_of}
use Rattle.settings.specs.Bursts.{parse_ge_of}
use Rattle.settings.specs.Windows.{no_window, no_kill, parse_window_of, parse_kill_of}
use Rattle.settings.specs.declared.entries.Entries.{Entries}
use Rattle.settings.specs.declared.ge.Ge.{Ge}
use Rattle.settings.specs.declared.kill.TcpKill.{TcpKill}
use Rattle.settings.specs.declared.window.Window.{Window}
use Rattle.settings.specs.Judgement.{is_positive, is_probability, is_time, is_ge, are_chances, is_list, is_window, is_kill}
use Rattle.settings.specs.Laws.Numbers.{probability_judged, time_judged, count_judged, positive_judged, cap_judged}
use Rattle.settings.specs.Laws.Bursts.{ge_judged}
use Rattle.settings.proofs.JudgedEntries.{kills_judged, windows_judged}
use Rattle.options.specs.declared.config.Config.{Config}
use Rattle.options.specs.declared.delays.Delays.{Delays}
use Rattle.options.specs.declared.limits.Limits.{Limits}
use Rattle.options.specs.declared.losses.Losses.{Losses}
use Rattle.options.specs.declared.scalars.LineScalars.{LineScalars}
use Rattle.options.specs.declared.schedules.Schedules.{Schedules}
use Rattle.options.specs.Config.{direction_with, default_direction, default_queue_cap, default_config}
use Rattle.options.specs.Directions.{value_at, list_at, losses_of, delay_and_jitter_of, delayed_of, reorder_delay_of, reordering_of, delays_of, rate_and_burst_of, mtu_of, limits_of, schedules_of, combined_of, direction_of}
use Rattle.options.specs.Parse.{judged_text_of, config_of, answered, parse_of}
use Rattle.options.specs.Scalars.{mode_and_seed_of, duration_of, queue_cap_of, line_scalars_of}
use Rattle.options.specs.Modes.{other_mode_of}
use Rattle.judgement.specs.Scalars.{are_scalars_of, is_rate, is_mtu}
use Rattle.judgement.specs.Settings.{is_settings_of}
use Rattle.judgement.specs.Laws.Limits.{rate_judged, mtu_judged, burst_for}

-- ---- the parts of a direction

record LossesPass (a : Losses) : Type 0 where
  loss : is_probability a.loss ≡ true
  ge : is_ge a.ge ≡ true

ge_passes : (o : Option Ge) → IfSome o (λ g. are_chances g ≡ true) → is_ge o ≡ true
ge_passes None h = refl
ge_passes (Some g) h = h

losses_pass : (s prefix : List ℕ) → IfOk (losses_of s prefix) LossesPass
unfolding losses_of
losses_pass s prefix =
    then_taken (λ x. is_probability x ≡ true) LossesPass (read_or parse_prob_of (whole 0) (value_at s prefix "loss")) _ (probability_judged _) (λ loss h.
    then_taken (λ o. IfSome o (λ g. are_chances g ≡ true)) LossesPass (read_if parse_ge_of (value_at s prefix "ge")) _ (read_taken (λ g. are_chances g ≡ true) parse_ge_of (value_at s prefix "ge") ge_judged) (λ ge k.
    record { loss = h; ge = ge_passes ge k }))

record DelaysPass (b : Delays) : Type 0 where
  delay : is_time b.delay_ms ≡ true
  jitter : is_time b.jitter_ms ≡ true
  reorder : is_probability b.reorder_p ≡ true
  extra : is_time b.reorder_delay_ms ≡ true

-- both of a pair
abbrev Pair : (Float → Bool) → (Float → Bool) → Float × Float → Type 0
Pair is are p = (is p.0 ≡ true) × (are p.1 ≡ true)

delay_passes : (s prefix : List ℕ) → IfOk (delay_and_jitter_of s prefix) (Pair is_time is_time)
unfolding delay_and_jitter_of
delay_passes s prefix =
    then_taken (λ x. is_time x ≡ true) (Pair is_time is_time) (read_or parse_f64_ms_of (whole 0) (value_at s prefix "delay-ms")) _ (time_judged (value_at s prefix "delay-ms")) (λ delay h.
    then_taken (λ x. is_time x ≡ true) (Pair is_time is_time) (read_or parse_f64_ms_of (whole 0) (value_at s prefix "jitter-ms")) _ (time_judged (value_at s prefix "jitter-ms")) (λ jitter i. (h, i)))

delayed_passes : (p d : Float) → is_probability p ≡ true → is_time d ≡ true → IfOk (delayed_of p d) (Pair is_probability is_time)
unfolding delayed_of
delayed_passes p d h i = go _
  where
    go : (t : Bool) → IfOk (cond t (Err refusal.Reorder) (Ok (p, d))) (Pair is_probability is_time)
    go true = tt
    go false = (h, i)

reordering_passes : (s prefix : List ℕ) → IfOk (reordering_of s prefix) (Pair is_probability is_time)
unfolding reordering_of reorder_delay_of
reordering_passes s prefix =
    then_taken (λ x. is_probability x ≡ true) (Pair is_probability is_time) (read_or parse_prob_of (whole 0) (value_at s prefix "reorder")) _ (probability_judged (value_at s prefix "reorder")) (λ p h.
    then_taken (λ x. is_time x ≡ true) (Pair is_probability is_time) (read_or parse_f64_ms_of (whole 0) (value_at s prefix "reorder-delay-ms")) _ (time_judged (value_at s prefix "reorder-delay-ms")) (λ d i. delayed_passes p d h i))

delays_pass : (s prefix : List ℕ) → IfOk (delays_of s prefix) DelaysPass
unfolding delays_of
delays_pass s prefix =
    then_taken (Pair is_time is_time) DelaysPass (delay_and_jitter_of s prefix) _ (delay_passes s prefix) (λ first h.
    then_taken (Pair is_probability is_time) DelaysPass (reordering_of s prefix) _ (reordering_passes s prefix) (λ second i.
    record { delay = h.0; jitter = h.1; reorder = i.0; extra = i.1 }))

record LimitsPass (c : Limits) : Type 0 where
  duplicate : is_probability c.duplicate_p ≡ true
  rate : is_rate c.rate_bps ≡ true
  burst : is_bounded c.rate_burst_bytes ≡ true
  mtu : is_mtu c.mtu ≡ true

-- a rate with its burst
abbrev RatePasses : Option ℕ × ℕ → Type 0
RatePasses p = (is_rate p.0 ≡ true) × (is_bounded p.1 ≡ true)

rate_passes : (s prefix : List ℕ) → IfOk (rate_and_burst_of s prefix) RatePasses
unfolding rate_and_burst_of
rate_passes s prefix =
    then_taken (λ rate. is_rate rate ≡ true) RatePasses (read_if parse_positive_of (value_at s prefix "rate-bps")) _ (rate_judged (value_at s prefix "rate-bps")) (λ rate i.
    then_taken (λ n. is_bounded n ≡ true) RatePasses (read_or parse_bounded_of 0 (value_at s prefix "rate-burst-bytes")) _ (count_judged 0 (omega arith) (value_at s prefix "rate-burst-bytes")) (λ burst j.
    (i, burst_for burst j rate i)))

limits_pass : (s prefix : List ℕ) → IfOk (limits_of s prefix) LimitsPass
unfolding limits_of mtu_of
limits_pass s prefix =
    then_taken (λ x. is_probability x ≡ true) LimitsPass (read_or parse_prob_of (whole 0) (value_at s prefix "duplicate")) _ (probability_judged (value_at s prefix "duplicate")) (λ duplicate h.
    then_taken RatePasses LimitsPass (rate_and_burst_of s prefix) _ (rate_passes s prefix) (λ rate i.
    then_taken (λ mtu. is_mtu mtu ≡ true) LimitsPass (read_if parse_positive_of (value_at s prefix "mtu")) _ (mtu_judged (value_at s prefix "mtu")) (λ mtu k.
    record { duplicate = h; rate = i.0; burst = i.1; mtu = k })))

record SchedulesPass (d : Schedules) : Type 0 where
  blackouts : is_list is_window d.blackouts.entries d.blackouts.count ≡ true
  nat : is_bounded d.nat_change_every_ms ≡ true
  kills : is_list is_kill d.tcp_kills.entries d.tcp_kills.count ≡ true

abbrev WindowsPass : Entries Window → Type 0
WindowsPass l = is_list is_window l.entries l.count ≡ true

abbrev KillsPass : Entries TcpKill → Type 0
KillsPass l = is_list is_kill l.entries l.count ≡ true

schedules_pass : (s prefix : List ℕ) → IfOk (schedules_of s prefix) SchedulesPass
unfolding schedules_of
schedules_pass s prefix =
    then_taken WindowsPass SchedulesPass (list_at s prefix parse_window_of no_window "blackout") _ (windows_judged _) (λ blackouts h.
    then_taken (λ n. is_bounded n ≡ true) SchedulesPass (read_or parse_positive_of 0 (value_at s prefix "nat-change-every-ms")) _ (positive_judged 0 (omega arith) (value_at s prefix "nat-change-every-ms")) (λ nat i.
    then_taken KillsPass SchedulesPass (list_at s prefix parse_kill_of no_kill "kill") _ (kills_judged _) (λ kills j.
    record { blackouts = h; nat = i; kills = j })))

combined_passes : (a : Losses) (b : Delays) (c : Limits) (d : Schedules) → LossesPass a → DelaysPass b → LimitsPass c → SchedulesPass d → is_settings_of (combined_of a b c d) ≡ true
unfolding is_settings_of are_scalars_of combined_of
combined_passes a b c d h i j k =
    both _ _
    (both _ _ h.loss (both _ _ h.ge (both _ _ i.delay (both _ _ i.jitter (both _ _ i.reorder (both _ _ i.extra (both _ _ j.duplicate (both _ _ j.rate (both _ _ j.burst
    (both _ _ j.mtu k.nat))))))))))
    (both _ _ k.blackouts k.kills)

-- ---- a direction, and the whole text

pub direction_judged : (s prefix : List ℕ) → IfOk (direction_of s prefix) (λ cfg. is_settings_of cfg ≡ true)
unfolding direction_of
direction_judged s prefix =
    then_taken LossesPass (λ cfg. is_settings_of cfg ≡ true) (losses_of s prefix) _ (losses_pass s prefix) (λ a h.
    then_taken DelaysPass (λ cfg. is_settings_of cfg ≡ true) (delays_of s prefix) _ (delays_pass s prefix) (λ b i.
    then_taken LimitsPass (λ cfg. is_settings_of cfg ≡ true) (limits_of s prefix) _ (limits_pass s prefix) (λ c j.
    then_taken SchedulesPass (λ cfg. is_settings_of cfg ≡ true) (schedules_of s prefix) _ (schedules_pass s prefix) (λ d k.
    combined_passes a b c d h i j k))))

pub default_judged : is_settings_of default_direction ≡ true
unfolding is_settings_of are_scalars_of default_direction direction_with le of_int
default_judged = refl

-- what refusal 29 asks of both directions, and what 8 and 9 ask of the numbers beside them
pub record Sound (c : Config) : Type 0 where
  pub c2s_judged : is_settings_of c.c2s ≡ true
  pub s2c_judged : is_settings_of c.s2c ≡ true
  pub duration_judged : is_bounded c.duration_ms ≡ true
  pub queue_cap_judged : is_positive c.queue_cap ≡ true

default_sound : Sound default_config
unfolding default_config
default_sound = record { c2s_judged = default_judged; s2c_judged = default_judged; duration_judged = refl; queue_cap_judged = refl }

record LinePass (l : LineScalars) : Type 0 where
  duration : is_bounded l.duration_ms ≡ true
  cap : is_positive l.queue_cap ≡ true

line_pass : (s : List ℕ) → IfOk (line_scalars_of s) LinePass
unfolding line_scalars_of duration_of queue_cap_of
line_pass s =
    then_taken Any LinePass (mode_and_seed_of s) _ (any_taken _) (λ first _.
    then_taken (λ n. is_bounded n ≡ true) LinePass (read_or parse_bounded_of 0 (last_value_of (bytes "duration-ms") s)) _ (count_judged 0 (omega arith) _) (λ duration h.
    then_taken (λ n. is_positive n ≡ true) LinePass (read_or parse_positive_of default_queue_cap (last_value_of (bytes "queue-cap") s)) _ (cap_judged default_queue_cap refl _) (λ cap i.
    record { duration = h; cap = i })))

config_sound : (s : List ℕ) → IfOk (config_of s) Sound
unfolding config_of
config_sound s =
    then_taken Any Sound (judged_text_of s) _ (any_taken _) (λ _ _.
    then_taken LinePass Sound (line_scalars_of s) _ (line_pass s) (λ line h.
    then_taken (λ cfg. is_settings_of cfg ≡ true) Sound (direction_of s (bytes "c2s-")) _ (direction_judged s (bytes "c2s-")) (λ c2s i.
    then_taken (λ cfg. is_settings_of cfg ≡ true) Sound (direction_of s (bytes "s2c-")) _ (direction_judged s (bytes "s2c-")) (λ s2c j.
    then_taken Any Sound (other_mode_of line.mode c2s) _ (any_taken _) (λ _ _.
    then_taken Any Sound (other_mode_of line.mode s2c) _ (any_taken _) (λ _ _.
    record { c2s_judged = i; s2c_judged = j; duration_judged = h.duration; queue_cap_judged = h.cap }))))))

-- whatever the text, the settings of the answer pass
pub parse_sound : (s : List ℕ) → Sound (parse_of s).0
unfolding parse_of
parse_sound s = go (config_of s) (config_sound s)
  where
    go : (r : Result Config Refusal) → IfOk r Sound → Sound (answered r).0
    go (Ok c) h = h
    go (Err k) h = default_sound
