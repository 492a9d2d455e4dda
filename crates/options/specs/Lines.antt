-- The starred lines about the option text (document 01, "Lines to check"), and a line for each of the mode checks (document 02, Two), as theorems about the
-- definitions.
use Rattle.std.specs.Prelude.{◌≡◌, refl, true, false, Result, Ok, List, [], ◌∷◌, ◌++◌, ℕ, Float}
use Prim.Native.String.{String}
use Rattle.std.specs.Float.Ieee.{lt, le, div, of_int}
use Rattle.args.specs.Arguments.{gathered, values_of, last_value_of}
use Rattle.numbers.specs.Digits.{decimal_value}
use Rattle.numbers.specs.Whole.{whole}
use Rattle.numbers.specs.declared.refusal.Refusal.{Refusal}
use Rattle.numbers.specs.declared.refusal.Refusal.TheVariants as refusal
use Rattle.values.specs.Bytes.{bytes}
use Rattle.values.specs.Decimal.{decimal_of, parse_f64_ms_of, at_most_one}
use Rattle.values.specs.Parts.{colons_of}
use Rattle.values.specs.Whole.{digits_from, parse_u64_of, at_most, not_zero}
use Rattle.options.specs.declared.config.Config.{Config}
use Rattle.options.specs.Config.{direction_with, default_direction, default_config}
use Rattle.options.specs.Directions.{losses_of, delay_and_jitter_of, delayed_of, reorder_delay_of, reordering_of, delays_of, default_burst_of, burst_of, rate_and_burst_of, mtu_of, limits_of, schedules_of, combined_of, direction_of}
use Rattle.settings.specs.Lists.{no_entries, with_entry, entries_of}
use Rattle.options.specs.Parse.{unclosed_of, judged_text_of, refused_with, config_of, parse_of}
use Rattle.options.specs.Scalars.{verbose_of, mode_and_seed_of, duration_of, queue_cap_of, line_scalars_of}
use Rattle.settings.specs.Windows.{contains_of, parse_window_of}

-- the answer to a text with one delay
abbrev pub delayed : String → Config × Result (Unit {0}) Refusal
delayed v = parse_of (bytes "--c2s-delay-ms=" ++ (bytes v ++ (0 ∷ [])))

-- a delay that was taken, with its value
pub record TakenDelay (v : String) (x : Float) : Type 0 where
  pub taken : (delayed v).1 ≡ Ok tt
  pub delay_is : (delayed v).0.c2s.delay_ms ≡ x

pub record OptionLines : Type 0 where
  -- a decimal may end or start with its point, and have a plus sign
  pub half : TakenDelay ".5" (decimal_value 5 1)
  pub five : TakenDelay "5." (decimal_value 5 0)
  pub two : TakenDelay "+2" (decimal_value 2 0)
  -- what refusal 10 turns away
  pub point : delayed "." ≡ refused_with refusal.Decimal
  pub not_a_number : delayed "nan" ≡ refused_with refusal.Decimal
  pub exponent : delayed "1e3" ≡ refused_with refusal.Decimal
  pub sixteen_digits : delayed "1234567890123456" ≡ refused_with refusal.Decimal
  -- a window holds its start and not its end
  pub ten_to_twenty : parse_window_of (bytes "10:20") ≡ Ok (record { start_ms = 10; end_ms = 20 })
  pub holds_ten : contains_of (record { start_ms = 10; end_ms = 20 }) (whole 10) ≡ true
  pub not_twenty : contains_of (record { start_ms = 10; end_ms = 20 }) (whole 20) ≡ false

pub option_lines : OptionLines
unfolding parse_of config_of unclosed_of judged_text_of line_scalars_of mode_and_seed_of duration_of queue_cap_of verbose_of direction_of combined_of losses_of delay_and_jitter_of delayed_of reorder_delay_of reordering_of delays_of default_burst_of burst_of rate_and_burst_of mtu_of limits_of schedules_of no_entries with_entry entries_of direction_with default_direction default_config gathered values_of last_value_of decimal_of parse_f64_ms_of at_most_one contains_of digits_from parse_u64_of at_most not_zero lt le div of_int decimal_value
option_lines = record {
  half = record { taken = refl; delay_is = refl };
  five = record { taken = refl; delay_is = refl };
  two = record { taken = refl; delay_is = refl };
  point = refl;
  not_a_number = refl;
  exponent = refl;
  sixteen_digits = refl;
  ten_to_twenty = refl;
  holds_ten = refl;
  not_twenty = refl;
}

-- arguments, each closed by a zero byte
abbrev pub text_of : List String → List ℕ
text_of [] = []
text_of (a ∷ rest) = bytes a ++ (0 ∷ text_of rest)

-- an option that the mode does not have: under udp, which stands where no mode is named, and under tcp
pub record ModeLines : Type 0 where
  pub kill : parse_of (text_of ("--s2c-kill=1:2:rst" ∷ [])) ≡ refused_with refusal.KillUnderUdp
  pub nat_change : parse_of (text_of ("--mode=tcp" ∷ "--s2c-nat-change-every-ms=5" ∷ [])) ≡ refused_with refusal.NatChangeUnderTcp
  pub reorder : parse_of (text_of ("--mode=tcp" ∷ "--c2s-reorder=1" ∷ "--c2s-reorder-delay-ms=1" ∷ [])) ≡ refused_with refusal.ReorderUnderTcp
  -- the client's direction comes first, whatever the numbers
  pub duplicate : parse_of (text_of ("--mode=tcp" ∷ "--c2s-duplicate=1" ∷ "--s2c-nat-change-every-ms=5" ∷ [])) ≡ refused_with refusal.DuplicateUnderTcp

pub mode_lines : ModeLines
unfolding parse_of config_of unclosed_of judged_text_of line_scalars_of mode_and_seed_of duration_of queue_cap_of verbose_of direction_of combined_of losses_of delay_and_jitter_of delayed_of reorder_delay_of reordering_of delays_of burst_of rate_and_burst_of mtu_of limits_of schedules_of no_entries with_entry entries_of gathered values_of last_value_of decimal_of parse_f64_ms_of at_most_one digits_from parse_u64_of at_most not_zero colons_of lt le div of_int decimal_value
mode_lines = record { kill = refl; nat_change = refl; reorder = refl; duplicate = refl }
