-- What refusal 29 asks of the settings of a direction beside its lists.
use Rattle.std.specs.Prelude.{Bool, true, ◌&&◌, ℕ, Option, Some, None}
use Rattle.values.specs.Whole.{is_bounded}
use Rattle.settings.specs.Judgement.{is_probability, is_time, is_positive, is_ge}
use Rattle.options.specs.declared.config.DirectionConfig.{DirectionConfig}

-- a rate or an MTU of 0 is none
abbrev pub is_limit : Option ℕ → Bool
is_limit None = true
is_limit (Some n) = is_positive n

abbrev pub is_rate : Option ℕ → Bool
is_rate rate = is_limit rate

abbrev pub is_mtu : Option ℕ → Bool
is_mtu mtu = is_limit mtu

unfoldable pub are_scalars_of : DirectionConfig → Bool
are_scalars_of cfg =
    is_probability cfg.loss
    && (is_ge cfg.ge
    && (is_time cfg.delay_ms
    && (is_time cfg.jitter_ms
    && (is_probability cfg.reorder_p
    && (is_time cfg.reorder_delay_ms
    && (is_probability cfg.duplicate_p
    && (is_rate cfg.rate_bps
    && (is_bounded cfg.rate_burst_bytes
    && (is_mtu cfg.mtu
    && is_bounded cfg.nat_change_every_ms)))))))))
