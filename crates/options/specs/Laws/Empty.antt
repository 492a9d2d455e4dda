-- A text without bytes has no arguments and gives the default settings.
use Rattle.std.specs.Prelude.{◌≡◌, refl, Ok, []}
use Rattle.std.specs.Float.Ieee.{lt, le, of_int}
use Rattle.args.specs.Arguments.{gathered, values_of, last_value_of}
use Rattle.settings.specs.Lists.{no_entries, entries_of}
use Rattle.options.specs.Config.{direction_with, default_direction, default_config}
use Rattle.options.specs.Directions.{losses_of, delay_and_jitter_of, delayed_of, reorder_delay_of, reordering_of, delays_of, default_burst_of, burst_of, rate_and_burst_of, mtu_of, limits_of, schedules_of, combined_of, direction_of}
use Rattle.options.specs.Parse.{unclosed_of, judged_text_of, config_of, parse_of}
use Rattle.options.specs.Scalars.{verbose_of, mode_and_seed_of, duration_of, queue_cap_of, line_scalars_of}

pub empty_text : parse_of [] ≡ (default_config, Ok tt)
unfolding parse_of config_of unclosed_of judged_text_of line_scalars_of mode_and_seed_of duration_of queue_cap_of verbose_of direction_of combined_of losses_of delay_and_jitter_of delayed_of reorder_delay_of reordering_of delays_of default_burst_of burst_of rate_and_burst_of mtu_of limits_of schedules_of no_entries entries_of direction_with default_direction default_config gathered values_of last_value_of lt le of_int
empty_text = refl
