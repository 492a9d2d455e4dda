-- What a creation ends in: the device of what the host named, or, where it is refused, the device that document 01 gives then ("Who can cause a refusal").
use Rattle.std.specs.Prelude.{◌≡◌, ◌⊎◌, Result, Ok, Err}
use Rattle.numbers.specs.declared.refusal.Refusal.{Refusal}
use Rattle.numbers.specs.declared.refusal.Refusal.TheVariants as refusal
use Rattle.options.specs.Config.{default_direction}
use Rattle.engine.specs.Engine.{fresh_of}
use Rattle.queue.specs.Calls.{default_width, fresh}
use Rattle.machine.specs.Machine.{Creation}
use Rattle.device.specs.Creation.{fresh_device}
use Rattle.device.specs.declared.device.Device.{Device}

-- the device in which nothing has happened
abbrev pub new_device : Creation → Device
new_device o = fresh_device (fresh_of o.settings o.generator_seed) (fresh o.capacity o.width 0)

-- what the device of a refused creation is made of
abbrev pub refused_creation : Creation
refused_creation = record { settings = default_direction; generator_seed = 0; capacity = 1; width = default_width }

-- 29, 24, 30 or 23
abbrev pub CreationRefusal : Refusal → Type 0
CreationRefusal e = (e ≡ refusal.Settings) ⊎ (e ≡ refusal.Capacity) ⊎ (e ≡ refusal.Width) ⊎ (e ≡ refusal.Memory)

-- a creation of what the host named is made, or refused by 29, 24, 30 or 23
abbrev pub CreationEnds : Creation → Device × Result (Unit {0}) Refusal → Type 0
CreationEnds o r = (r ≡ (new_device o, Ok tt)) ⊎ ((e : Refusal) × CreationRefusal e × (r ≡ (new_device refused_creation, Err e)))
