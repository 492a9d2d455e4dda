-- What the mode checks say of a text (document 02, Two).
use Rattle.std.specs.Prelude.{◌≡◌, ◌⊎◌, ◌<◌, Bool, true, false, Ok, List, ℕ, ltb}
use Rattle.std.specs.Float.Ieee.{lt}
use Rattle.numbers.specs.Refusals.{number_of, BeforeModeChecks}
use Rattle.numbers.specs.Whole.{whole}
use Rattle.numbers.specs.declared.refusal.Refusal.{Refusal}
use Rattle.numbers.specs.declared.refusal.Refusal.TheVariants.{KillUnderUdp, NatChangeUnderTcp, ReorderUnderTcp, DuplicateUnderTcp}
use Rattle.values.specs.Bytes.{bytes}
use Rattle.options.specs.declared.config.Config.{Config}
use Rattle.options.specs.declared.config.DirectionConfig.{DirectionConfig}
use Rattle.options.specs.declared.mode.Mode.{Mode}
use Rattle.options.specs.declared.mode.Mode.TheVariants.{Udp, Tcp}
use Rattle.options.specs.declared.scalars.LineScalars.{LineScalars}
use Rattle.options.specs.Directions.{direction_of}
use Rattle.options.specs.Parse.{judged_text_of}
use Rattle.options.specs.Scalars.{line_scalars_of}

abbrev pub has_kills : DirectionConfig → Bool
has_kills d = ltb 0 d.tcp_kill_count

abbrev pub has_nat_changes : DirectionConfig → Bool
has_nat_changes d = ltb 0 d.nat_change_every_ms

abbrev pub has_reorder : DirectionConfig → Bool
has_reorder d = lt (whole 0) d.reorder_p

abbrev pub has_duplicate : DirectionConfig → Bool
has_duplicate d = lt (whole 0) d.duplicate_p

-- the options that a mode does not have, each with its refusal
pub data Lacks : Mode → (DirectionConfig → Bool) → Refusal → Type 0 where
  kill : Lacks Udp has_kills KillUnderUdp
  nat_change : Lacks Tcp has_nat_changes NatChangeUnderTcp
  reorder : Lacks Tcp has_reorder ReorderUnderTcp
  duplicate : Lacks Tcp has_duplicate DuplicateUnderTcp

-- a direction has none of them
abbrev pub Allowed : Mode → DirectionConfig → Type 0
Allowed mode d = (present : DirectionConfig → Bool) (k : Refusal) → Lacks mode present k → present d ≡ false

-- a direction has one of them, and none with a smaller number
pub record Slips (mode : Mode) (d : DirectionConfig) (k : Refusal) : Type 0 where
  pub present : DirectionConfig → Bool
  pub lacks : Lacks mode present k
  pub found : present d ≡ true
  pub first : (other : DirectionConfig → Bool) (l : Refusal) → Lacks mode other l → number_of l < number_of k → other d ≡ false

-- the client's direction slips, or the server's where the client's is allowed
abbrev pub SlipsFirst : Mode → DirectionConfig → DirectionConfig → Refusal → Type 0
SlipsFirst mode c2s s2c k = Slips mode c2s k ⊎ (Allowed mode c2s × Slips mode s2c k)

-- a text of which all options are taken one by one
pub record OptionsTaken (s : List ℕ) (line : LineScalars) (c2s s2c : DirectionConfig) : Type 0 where
  pub text_is : judged_text_of s ≡ Ok tt
  pub line_is : line_scalars_of s ≡ Ok line
  pub c2s_is : direction_of s (bytes "c2s-") ≡ Ok c2s
  pub s2c_is : direction_of s (bytes "s2c-") ≡ Ok s2c

-- such a text that slips
pub record SlipOf (s : List ℕ) (k : Refusal) : Type 0 where
  pub line : LineScalars
  pub c2s : DirectionConfig
  pub s2c : DirectionConfig
  pub taken : OptionsTaken s line c2s s2c
  pub slips : SlipsFirst line.mode c2s s2c k

-- what a refusal of a text says: it comes before the mode checks, or the text slips so
abbrev pub RefusalTold : List ℕ → Refusal → Type 0
RefusalTold s k = BeforeModeChecks k ⊎ SlipOf s k

-- both directions of settings are allowed
abbrev pub BothAllowed : Config → Type 0
BothAllowed config = Allowed config.mode config.c2s × Allowed config.mode config.s2c
