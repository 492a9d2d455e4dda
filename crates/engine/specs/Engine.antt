-- How an engine starts from settings and seed, the state that an arrival changes, and what the windows of its settings say.
use Rattle.std.specs.Prelude.{false, cond, ℕ, ltb, Float, take}
use Rattle.std.specs.Float.{inf}
use Rattle.numbers.specs.Whole.{whole}
use Rattle.draws.specs.Rng.{new_rng_of}
use Rattle.accounts.specs.Stats.{no_stats}
use Rattle.options.specs.declared.config.DirectionConfig.{DirectionConfig}
use Rattle.steps.specs.Bucket.{bucket_capacity_of}
use Rattle.steps.specs.Gate.{kill_gate_of, any_window_of, gate_of}
use Rattle.steps.specs.declared.arrival.ArrivalState.{ArrivalState}
use Rattle.steps.specs.declared.gate.Gate.{Gate}
use Rattle.engine.specs.declared.engine.ArrivalEngine.{ArrivalEngine}

-- the first rebind is one period away; without a period it never comes
unfoldable pub next_rebind_of : ℕ → Float
next_rebind_of every = cond (ltb 0 every) (whole every) (inf false)

-- the bucket is full, the state good, nothing counted
unfoldable pub fresh_of : DirectionConfig → ℕ → ArrivalEngine
fresh_of cfg seed =
    record {
      cfg = cfg;
      rng = new_rng_of seed;
      ge_bad = false;
      tokens = whole (bucket_capacity_of cfg.rate_bps cfg.rate_burst_bytes);
      last_refill_ms = whole 0;
      next_rebind_ms = next_rebind_of cfg.nat_change_every_ms;
      rebinds_done = 0;
      stats = no_stats;
    }

-- what an arrival changes, apart from the counters
unfoldable pub state_of : ArrivalEngine → ArrivalState
state_of e = record { rng = e.rng; ge_bad = e.ge_bad; tokens = e.tokens; last_refill_ms = e.last_refill_ms }

-- steps 2 and 3 over the counted entries
unfoldable pub gate_at_of : DirectionConfig → Float → Gate
gate_at_of cfg now = gate_of (kill_gate_of (take cfg.tcp_kill_count cfg.tcp_kills) now) (any_window_of (take cfg.blackout_count cfg.blackouts) now)
