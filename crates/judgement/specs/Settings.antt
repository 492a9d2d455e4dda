-- Which settings of a direction refusal 29 lets through: its settings beside the lists pass, and so do the counted entries of its two lists.
use Rattle.std.specs.Prelude.{Bool, ◌&&◌}
use Rattle.settings.specs.Judgement.{is_window, is_kill, is_list}
use Rattle.options.specs.declared.config.DirectionConfig.{DirectionConfig}
use Rattle.judgement.specs.Scalars.{are_scalars_of}

unfoldable pub is_settings_of : DirectionConfig → Bool
is_settings_of cfg =
    are_scalars_of cfg
    && (is_list is_window cfg.blackouts cfg.blackout_count && is_list is_kill cfg.tcp_kills cfg.tcp_kill_count)
