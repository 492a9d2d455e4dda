-- The whole option text (document 01, "Option text"), with the source's order of checks: first the list of arguments, then the options of the line, then the two
-- directions, the client's first, and last what the mode does not have.
use Rattle.std.specs.Prelude.{Bool, false, cond, not, Result, Ok, Err, List, ℕ, ◌-◌, ltb, eqb, length, get_or}
use Rattle.std.specs.List.{list_any}
use Rattle.args.specs.Arguments.{gathered}
use Rattle.numbers.specs.Results.{and_then}
use Rattle.numbers.specs.declared.refusal.Refusal.{Refusal}
use Rattle.numbers.specs.declared.refusal.Refusal.TheVariants as refusal
use Rattle.values.specs.Bytes.{bytes}
use Rattle.options.specs.declared.config.Config.{Config}
use Rattle.options.specs.declared.config.DirectionConfig.{DirectionConfig}
use Rattle.options.specs.declared.scalars.LineScalars.{LineScalars}
use Rattle.options.specs.Config.{default_config}
use Rattle.options.specs.Directions.{direction_of}
use Rattle.options.specs.Modes.{other_mode_of}
use Rattle.options.specs.Scalars.{line_scalars_of}

-- the longest option text
abbrev pub most_bytes : ℕ
most_bytes = 16384

abbrev pub any_high : List ℕ → Bool
any_high s = list_any (λ b. ltb 127 b) s

unfoldable pub unclosed_of : List ℕ → Bool
unclosed_of s = cond (ltb 0 (length s)) (not (eqb (get_or s (length s - 1) 0) 0)) false

-- refusals 1 to 3 judge the text as bytes, before its list of arguments
unfoldable pub judged_text_of : List ℕ → Result (Unit {0}) Refusal
judged_text_of s =
    cond (ltb most_bytes (length s)) (Err refusal.TextLength)
    (cond (unclosed_of s) (Err refusal.TextEnd)
    (cond (any_high s) (Err refusal.Byte) (gathered s).outcome))

abbrev pub config_with : LineScalars → DirectionConfig → DirectionConfig → Config
config_with line c2s s2c = record {
  mode = line.mode;
  seed = line.seed;
  duration_ms = line.duration_ms;
  verbose = line.verbose;
  queue_cap = line.queue_cap;
  c2s = c2s;
  s2c = s2c;
}

unfoldable pub config_of : List ℕ → Result Config Refusal
config_of s =
    and_then (judged_text_of s) (λ _.
    and_then (line_scalars_of s) (λ line.
    and_then (direction_of s (bytes "c2s-")) (λ c2s.
    and_then (direction_of s (bytes "s2c-")) (λ s2c.
    and_then (other_mode_of line.mode c2s) (λ _.
    and_then (other_mode_of line.mode s2c) (λ _.
    Ok (config_with line c2s s2c)))))))

-- a refused text gives the settings of none
abbrev pub refused_with : Refusal → Config × Result (Unit {0}) Refusal
refused_with k = (default_config, Err k)

abbrev pub answered : Result Config Refusal → Config × Result (Unit {0}) Refusal
answered (Ok config) = (config, Ok tt)
answered (Err k) = refused_with k

unfoldable pub parse_of : List ℕ → Config × Result (Unit {0}) Refusal
parse_of s = answered (config_of s)
