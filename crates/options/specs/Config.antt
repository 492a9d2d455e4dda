-- The settings of a text without arguments, as the source has them, and those of a direction that does one thing or another.
use Rattle.std.specs.Prelude.{false, ℕ, Float, replicate, Option, None}
use Rattle.numbers.specs.Limits.{max_entries}
use Rattle.numbers.specs.Whole.{whole}
use Rattle.settings.specs.Windows.{no_window, no_kill}
use Rattle.options.specs.declared.config.Config.{Config}
use Rattle.options.specs.declared.config.DirectionConfig.{DirectionConfig}
use Rattle.options.specs.declared.mode.Mode.TheVariants.{Udp}

-- a direction that does nothing but what these four say
unfoldable pub direction_with : Float → Float → Option ℕ → Option ℕ → DirectionConfig
direction_with loss duplicate rate mtu = record {
  loss = loss;
  ge = None;
  delay_ms = whole 0;
  jitter_ms = whole 0;
  reorder_p = whole 0;
  reorder_delay_ms = whole 0;
  duplicate_p = duplicate;
  rate_bps = rate;
  rate_burst_bytes = 0;
  mtu = mtu;
  blackouts = replicate max_entries no_window;
  blackout_count = 0;
  nat_change_every_ms = 0;
  tcp_kills = replicate max_entries no_kill;
  tcp_kill_count = 0;
}

unfoldable pub default_direction : DirectionConfig
default_direction = direction_with (whole 0) (whole 0) None None

abbrev pub default_seed : ℕ
default_seed = 1

abbrev pub default_queue_cap : ℕ
default_queue_cap = 100000

unfoldable pub default_config : Config
default_config = record {
  mode = Udp;
  seed = default_seed;
  duration_ms = 0;
  verbose = false;
  queue_cap = default_queue_cap;
  c2s = default_direction;
  s2c = default_direction;
}
