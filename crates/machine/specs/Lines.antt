-- Document 01's starred lines in one list, each a theorem about the definitions.
use Rattle.std.specs.Prelude.{◌≡◌, true, List, [], ◌∷◌, length, None}
use Rattle.numbers.specs.Whole.{whole}
use Rattle.draws.specs.Lines.{DrawLines}
use Rattle.accounts.specs.Lines.{AccountLines}
use Rattle.options.specs.Config.{direction_with}
use Rattle.options.specs.Lines.{OptionLines}
use Rattle.options.specs.declared.config.DirectionConfig.{DirectionConfig}
use Rattle.steps.specs.declared.decision.Decision.TheVariants.{Enqueue}
use Rattle.engine.specs.Lines.{ArrivalLines}
use Rattle.machine.specs.Machine.{Machine, host_creation, fresh_machine}
use Rattle.machine.specs.Calls.{Call, arrive, decided}
use Rattle.machine.specs.Steps.{answers, after_all}
use Rattle.machine.specs.Tally.{total}

-- settings that do nothing but duplicate every packet
abbrev duplicating : DirectionConfig
duplicating = direction_with (whole 0) (whole 1) None None

-- a machine of capacity 1 and slots of 64 bytes with these settings, seed 1 and salt 0, and one arrival of three bytes at 0 with the route 7
abbrev single : Machine
single = fresh_machine (host_creation duplicating 1 0 1 64)

abbrev one : List Call
one = arrive (whole 0) (1 ∷ 2 ∷ 3 ∷ []) 7 ∷ []

-- one arrival of a packet that is duplicated, at a capacity of 1 (document 01, "Lines to check")
pub record OverflowLines : Type 0 where
  pub answered : answers single one ≡ (decided (Enqueue (whole 0) true) 1 1 0 ∷ [])
  -- received 1, duplicates 1, overflow 1, and nothing else is counted
  pub counted : total (answers single one) ≡ record { received = 1; random = 0; ge = 0; mtu = 0; blackout = 0; reset = 0; duplicates = 1; overflow = 1; released = 0; torn = 0 }
  pub held : length (after_all single one).held ≡ 1

pub record StarredLines : Type 0 where
  -- "Generator seed 1 ..", "Loss 0.25 ..", "0.3 ..", "Seed 0 as above"
  pub draws : DrawLines
  -- "`10:20` ..", "`.5`, `5.`, `+2` taken; .."
  pub options : OptionLines
  -- "Loss 0.25 keeps that packet", "0.3 drops it", "MTU 1500 ..", "Rate 8000 ..", "At 0 ..", "At 250 .."
  pub arrivals : ArrivalLines
  -- "Latency 0.5 → 0 .."
  pub accounts : AccountLines
  -- "Capacity 1, duplicate 1 .."
  pub overflow : OverflowLines
