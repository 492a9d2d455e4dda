-- The options that stand for the whole line.
use Rattle.std.specs.Prelude.{Bool, false, ◌||◌, Option, Some, None, Result, Ok, List, ℕ}
use Rattle.args.specs.Arguments.{gathered, flag_in, last_value_of}
use Rattle.numbers.specs.Results.{and_then, read_or}
use Rattle.numbers.specs.declared.refusal.Refusal.{Refusal}
use Rattle.values.specs.Bytes.{bytes, same}
use Rattle.values.specs.Whole.{parse_u64_of, parse_bounded_of, parse_positive_of}
use Rattle.options.specs.declared.mode.Mode.{Mode}
use Rattle.options.specs.declared.mode.Mode.TheVariants.{Udp}
use Rattle.options.specs.declared.scalars.LineScalars.{LineScalars}
use Rattle.options.specs.Config.{default_seed, default_queue_cap}
use Rattle.options.specs.Modes.{parse_mode_of}

abbrev pub yes_of : List ℕ → Bool
yes_of v = same v (bytes "1") || (same v (bytes "true") || (same v (bytes "yes") || same v (bytes "on")))

abbrev pub yes_at : Option (List ℕ) → Bool
yes_at None = false
yes_at (Some v) = yes_of v

-- the bare flag counts, or else the last value
unfoldable pub verbose_of : List ℕ → Bool
verbose_of s = flag_in (gathered s).items || yes_at (last_value_of (bytes "verbose") s)

-- the mode and the seed
unfoldable pub mode_and_seed_of : List ℕ → Result (Mode × ℕ) Refusal
mode_and_seed_of s =
    and_then (read_or parse_mode_of Udp (last_value_of (bytes "mode") s)) (λ mode.
    and_then (read_or parse_u64_of default_seed (last_value_of (bytes "seed") s)) (λ seed. Ok (mode, seed)))

unfoldable pub duration_of : List ℕ → Result ℕ Refusal
duration_of s = read_or parse_bounded_of 0 (last_value_of (bytes "duration-ms") s)

unfoldable pub queue_cap_of : List ℕ → Result ℕ Refusal
queue_cap_of s = read_or parse_positive_of default_queue_cap (last_value_of (bytes "queue-cap") s)

unfoldable pub line_scalars_of : List ℕ → Result LineScalars Refusal
line_scalars_of s =
    and_then (mode_and_seed_of s) (λ first.
    and_then (duration_of s) (λ duration.
    and_then (queue_cap_of s) (λ cap.
    Ok (record { mode = first.0; seed = first.1; duration_ms = duration; queue_cap = cap; verbose = verbose_of s }))))
