-- The settings of one direction and the first refusal, in the source's order of checks.
use Rattle.std.specs.Prelude.{◌&&◌, cond, Option, Some, None, Result, Ok, Err, List, ◌++◌, ℕ, ◌/◌, ltb, eqb, Float}
use Rattle.std.specs.Float.Ieee.{le, lt}
use Prim.Native.String.{String}
use Rattle.args.specs.Arguments.{last_value_of, values_of}
use Rattle.numbers.specs.Results.{and_then, read_if, read_or}
use Rattle.numbers.specs.Whole.{whole}
use Rattle.numbers.specs.declared.refusal.Refusal.{Refusal}
use Rattle.numbers.specs.declared.refusal.Refusal.TheVariants as refusal
use Rattle.values.specs.Bytes.{bytes}
use Rattle.values.specs.Decimal.{parse_f64_ms_of, parse_prob_of}
use Rattle.values.specs.Whole.{parse_bounded_of, parse_positive_of}
use Rattle.settings.specs.Bursts.{parse_ge_of}
use Rattle.settings.specs.Lists.{entries_of}
use Rattle.settings.specs.Windows.{no_window, no_kill, parse_window_of, parse_kill_of}
use Rattle.settings.specs.declared.entries.Entries.{Entries}
use Rattle.options.specs.declared.config.DirectionConfig.{DirectionConfig}
use Rattle.options.specs.declared.delays.Delays.{Delays}
use Rattle.options.specs.declared.limits.Limits.{Limits}
use Rattle.options.specs.declared.losses.Losses.{Losses}
use Rattle.options.specs.declared.schedules.Schedules.{Schedules}

-- the last value of the key `prefix` then `name` in the text s, and the list of all of them
abbrev pub value_at : List ℕ → List ℕ → String → Option (List ℕ)
value_at s prefix name = last_value_of (prefix ++ bytes name) s

abbrev pub list_at : {E : Type 0} → List ℕ → List ℕ → (List ℕ → Result E Refusal) → E → String → Result (Entries E) Refusal
list_at s prefix parsed none name = entries_of parsed none (values_of (prefix ++ bytes name) s)

-- loss and burst loss
unfoldable pub losses_of : List ℕ → List ℕ → Result Losses Refusal
losses_of s prefix =
    and_then (read_or parse_prob_of (whole 0) (value_at s prefix "loss")) (λ loss.
    and_then (read_if parse_ge_of (value_at s prefix "ge")) (λ ge.
    Ok (record { loss = loss; ge = ge })))

-- delay and jitter
unfoldable pub delay_and_jitter_of : List ℕ → List ℕ → Result (Float × Float) Refusal
delay_and_jitter_of s prefix =
    and_then (read_or parse_f64_ms_of (whole 0) (value_at s prefix "delay-ms")) (λ delay.
    and_then (read_or parse_f64_ms_of (whole 0) (value_at s prefix "jitter-ms")) (λ jitter.
    Ok (delay, jitter)))

-- refusal 14: packets that are reordered have to be delayed for it
unfoldable pub delayed_of : Float → Float → Result (Float × Float) Refusal
delayed_of reorder delay = cond (lt (whole 0) reorder && le delay (whole 0)) (Err refusal.Reorder) (Ok (reorder, delay))

unfoldable pub reorder_delay_of : List ℕ → List ℕ → Result Float Refusal
reorder_delay_of s prefix = read_or parse_f64_ms_of (whole 0) (value_at s prefix "reorder-delay-ms")

-- reordering: its probability and its delay
unfoldable pub reordering_of : List ℕ → List ℕ → Result (Float × Float) Refusal
reordering_of s prefix =
    and_then (read_or parse_prob_of (whole 0) (value_at s prefix "reorder")) (λ reorder.
    and_then (reorder_delay_of s prefix) (λ extra.
    delayed_of reorder extra))

unfoldable pub delays_of : List ℕ → List ℕ → Result Delays Refusal
delays_of s prefix =
    and_then (delay_and_jitter_of s prefix) (λ first.
    and_then (reordering_of s prefix) (λ second.
    Ok (record { delay_ms = first.0; jitter_ms = first.1; reorder_p = second.0; reorder_delay_ms = second.1 })))

-- the burst of a rate that names none: what it carries in a second, but not less than 1,500 bytes
abbrev pub least_burst : ℕ
least_burst = 1500

unfoldable pub default_burst_of : ℕ → ℕ
default_burst_of bps = cond (ltb (bps / 8) least_burst) least_burst (bps / 8)

unfoldable pub burst_of : ℕ → Option ℕ → ℕ
burst_of burst None = burst
burst_of burst (Some bps) = cond (eqb burst 0) (default_burst_of bps) burst

-- a rate with its burst
unfoldable pub rate_and_burst_of : List ℕ → List ℕ → Result (Option ℕ × ℕ) Refusal
rate_and_burst_of s prefix =
    and_then (read_if parse_positive_of (value_at s prefix "rate-bps")) (λ rate.
    and_then (read_or parse_bounded_of 0 (value_at s prefix "rate-burst-bytes")) (λ burst.
    Ok (rate, burst_of burst rate)))

unfoldable pub mtu_of : List ℕ → List ℕ → Result (Option ℕ) Refusal
mtu_of s prefix = read_if parse_positive_of (value_at s prefix "mtu")

-- duplicates, rate and MTU
unfoldable pub limits_of : List ℕ → List ℕ → Result Limits Refusal
limits_of s prefix =
    and_then (read_or parse_prob_of (whole 0) (value_at s prefix "duplicate")) (λ duplicate.
    and_then (rate_and_burst_of s prefix) (λ rate.
    and_then (mtu_of s prefix) (λ mtu.
    Ok (record { duplicate_p = duplicate; rate_bps = rate.0; rate_burst_bytes = rate.1; mtu = mtu }))))

-- blackouts, changes of the address, and kills
unfoldable pub schedules_of : List ℕ → List ℕ → Result Schedules Refusal
schedules_of s prefix =
    and_then (list_at s prefix parse_window_of no_window "blackout") (λ blackouts.
    and_then (read_or parse_positive_of 0 (value_at s prefix "nat-change-every-ms")) (λ nat.
    and_then (list_at s prefix parse_kill_of no_kill "kill") (λ kills.
    Ok (record { blackouts = blackouts; nat_change_every_ms = nat; tcp_kills = kills }))))

unfoldable pub combined_of : Losses → Delays → Limits → Schedules → DirectionConfig
combined_of a b c d = record {
  loss = a.loss;
  ge = a.ge;
  delay_ms = b.delay_ms;
  jitter_ms = b.jitter_ms;
  reorder_p = b.reorder_p;
  reorder_delay_ms = b.reorder_delay_ms;
  duplicate_p = c.duplicate_p;
  rate_bps = c.rate_bps;
  rate_burst_bytes = c.rate_burst_bytes;
  mtu = c.mtu;
  blackouts = d.blackouts.entries;
  blackout_count = d.blackouts.count;
  nat_change_every_ms = d.nat_change_every_ms;
  tcp_kills = d.tcp_kills.entries;
  tcp_kill_count = d.tcp_kills.count;
}

unfoldable pub direction_of : List ℕ → List ℕ → Result DirectionConfig Refusal
direction_of s prefix =
    and_then (losses_of s prefix) (λ a. and_then (delays_of s prefix) (λ b. and_then (limits_of s prefix) (λ c. and_then (schedules_of s prefix) (λ d.
    Ok (combined_of a b c d)))))
