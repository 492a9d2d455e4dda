-- What is claimed of a run, and the machine that a text, a direction, a salt, a capacity and a slot width are claimed to give. The claim itself is in
-- proofs/Claim.antt.
use Rattle.std.specs.Prelude.{◌≡◌, List, [], ℕ, length}
use Rattle.options.specs.Parse.{parse_of}
use Rattle.options.specs.declared.config.Config.{Config}
use Rattle.options.specs.declared.config.DirectionConfig.{DirectionConfig}
use Rattle.queue.specs.Tables.{Tables}
use Rattle.machine.specs.Arrivals.{EachOwn}
use Rattle.machine.specs.Bare.{bare_calls, bare_answers}
use Rattle.machine.specs.Calls.{Call, Answer, refused, Refusal, In}
use Rattle.machine.specs.Machine.{Machine, host_creation, fresh_machine}
use Rattle.machine.specs.Steps.{answers, after_all}
use Rattle.machine.specs.Tally.{total, came_in, accounted_for, nothing, EachTells}
use Rattle.device.specs.declared.device.Device.{Device}
use Rattle.claim.specs.Runs.{Ran, RefusedStay, WidthStays}

-- what is claimed of a run over the calls cs with the answers rs, and of the machine that is fed the same calls
pub record Claimed (m : Machine) {v : Device} {t : Tables} {cs : List Call} {rs : List Answer} (ran : Ran v t cs rs) : Type 0 where
  pub same : rs ≡ answers m cs
  pub own : EachOwn [] cs rs
  pub alike_answers : (ds : List Call) → bare_calls cs ≡ bare_calls ds → bare_answers rs ≡ bare_answers (answers m ds)
  pub counted : came_in (total rs) ≡ accounted_for (total rs) (length (after_all m cs).held)
  pub reports : EachTells nothing rs
  pub refusals : (k : ℕ) → In (refused k) rs → Refusal k
  pub refused_stay : RefusedStay ran
  -- so the width that the host named is the one that `payload` asks for
  pub width_stays : WidthStays m.width ran

-- the direction whose settings a device takes, which the host names
pub data Direction : Type 0 where
  c2s : Direction
  s2c : Direction

abbrev pub settings_of : Direction → Config → DirectionConfig
settings_of c2s c = c.c2s
settings_of s2c c = c.s2c

-- the machine of a text's settings and seed, for a direction, a salt, a capacity and a slot width
abbrev pub machine_of : List ℕ → Direction → ℕ → ℕ → ℕ → Machine
machine_of text d salt cap width = fresh_machine (host_creation (settings_of d (parse_of text).0) (parse_of text).0.seed salt cap width)
