-- The relation between a device over its lent memory and the plain machine.
use Rattle.std.specs.Prelude.{◌≡◌, ◌≤◌}
use Rattle.engine.specs.Laws.Sound.{SoundEngine}
use Rattle.held.specs.Copies.{Copy, Mem}
use Rattle.queue.specs.Tables.{Tables}
use Rattle.queue_laws.specs.Held.{plain}
use Rattle.queue_laws.specs.Laws.Keeps.{Keeps}
use Rattle.machine.specs.Machine.{Machine}
use Rattle.device.specs.declared.device.Device.{Device}

-- no held copy is longer than a slot
abbrev pub AllShort : Machine → Type 0
AllShort m = (c : Copy) → Mem c m.held → c.length ≤ m.width

-- the parts are the machine's, the tables hold its list, its engine is sound, and its copies are short
pub record Matches (v : Device) (t : Tables) (m : Machine) : Type 0 where
  pub engine : v.engine ≡ m.engine
  pub accounts : v.accounts ≡ m.accounts
  pub torn : v.torn ≡ m.torn
  pub queue : Keeps t v.queue (plain m.cap m.width m.held m.next_seq)
  pub sound : SoundEngine m.engine
  pub short : AllShort m
