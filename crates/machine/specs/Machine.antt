-- The state of the plain machine (document 01, "The plain machine"), beside the capacity and the slot width that the host named.
use Rattle.std.specs.Prelude.{Bool, ◌&&◌, List, [], ℕ}
use Rattle.numbers.specs.Limits.{is_counter_of}
use Rattle.draws.specs.Mix.{direction_seed_of}
use Rattle.accounts.specs.Accountant.{no_sends}
use Rattle.accounts.specs.Counters.{are_counters, accountant_counters}
use Rattle.accounts.specs.declared.accountant.SendAccountant.{SendAccountant}
use Rattle.options.specs.declared.config.DirectionConfig.{DirectionConfig}
use Rattle.engine.specs.Engine.{fresh_of}
use Rattle.engine.specs.Refusals.{counters_pass}
use Rattle.engine.specs.declared.engine.ArrivalEngine.{ArrivalEngine}
use Rattle.held.specs.Copies.{Copy}

pub record Machine : Type 0 where
  pub engine : ArrivalEngine
  pub cap : ℕ
  pub width : ℕ
  pub held : List Copy
  pub next_seq : ℕ
  pub accounts : SendAccountant
  pub torn : ℕ

abbrev pub machine : ArrivalEngine → ℕ → ℕ → List Copy → ℕ → SendAccountant → ℕ → Machine
machine e c w h n a t = record { engine = e; cap = c; width = w; held = h; next_seq = n; accounts = a; torn = t }

-- what a machine is made of: the settings of one direction, the seed of its generator, the capacity, and the slot width, which is the longest packet in bytes
pub record Creation : Type 0 where
  pub settings : DirectionConfig
  pub generator_seed : ℕ
  pub capacity : ℕ
  pub width : ℕ

-- what a host makes it of: the generator starts from the seed of the text and the salt of the host
abbrev pub host_creation : DirectionConfig → ℕ → ℕ → ℕ → ℕ → Creation
host_creation cfg seed salt cap width = record { settings = cfg; generator_seed = direction_seed_of seed salt; capacity = cap; width = width }

-- a fresh machine: the engine as the source starts it, and all else empty or 0
unfoldable pub fresh_machine : Creation → Machine
fresh_machine c = machine (fresh_of c.settings c.generator_seed) c.capacity c.width [] 0 no_sends 0

-- whether refusal 25 lets a call through: every counter, the torn copies and the next seq are below the limit
unfoldable pub in_range : ArrivalEngine → SendAccountant → ℕ → ℕ → Bool
in_range e a torn next = counters_pass e && are_counters (accountant_counters a) && is_counter_of torn && is_counter_of next
