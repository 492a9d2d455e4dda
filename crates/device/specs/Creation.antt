-- Creation from settings, seed, salt, capacity, slot width and lent memory: 29, 24, 30, 23. A refused one gives a device of the default settings, the generator's
-- seed 0, capacity 1 and slots of 2,048 bytes. The lent memory is only looked at.
use Rattle.std.specs.Prelude.{ℕ, Result, Ok, Err}
use Rattle.numbers.specs.declared.refusal.Refusal.{Refusal}
use Rattle.draws.specs.Mix.{direction_seed_of}
use Rattle.accounts.specs.Accountant.{no_sends}
use Rattle.options.specs.Config.{default_direction}
use Rattle.options.specs.declared.config.DirectionConfig.{DirectionConfig}
use Rattle.engine.specs.Calls.{new_engine_of}
use Rattle.engine.specs.Engine.{fresh_of}
use Rattle.engine.specs.declared.engine.ArrivalEngine.{ArrivalEngine}
use Rattle.queue.specs.Calls.{smallest_queue, create_of as queue_of}
use Rattle.queue.specs.Tables.{Tables}
use Rattle.queue.specs.declared.queue.ImpairQueue.{ImpairQueue}
use Rattle.device.specs.Parts.{Handed}
use Rattle.device.specs.declared.device.Device.{Device}

-- nothing sent, nothing torn
abbrev pub fresh_device : ArrivalEngine → ImpairQueue → Device
fresh_device e q = record { engine = e; queue = q; accounts = no_sends; torn = 0 }

-- what a refused creation gives
abbrev pub idle_device : Device
idle_device = fresh_device (fresh_of default_direction 0) smallest_queue

abbrev pub not_created : Refusal → Handed (Unit {0})
not_created e = (idle_device, Err e)

-- 24, 30, 23: the queue's
unfoldable pub queued_by : ArrivalEngine → Result (Unit {0}) Refusal → ImpairQueue → Handed (Unit {0})
queued_by e (Ok u) q = (fresh_device e q, Ok tt)
queued_by e (Err r) q = not_created r

abbrev pub queued_on : ArrivalEngine → ImpairQueue × Result (Unit {0}) Refusal → Handed (Unit {0})
queued_on e c = queued_by e c.1 c.0

-- 29 first: the engine's
unfoldable pub created_by : Result (Unit {0}) Refusal → ArrivalEngine → ImpairQueue × Result (Unit {0}) Refusal → Handed (Unit {0})
created_by (Ok u) e c = queued_on e c
created_by (Err r) e c = not_created r

unfoldable pub create_of : DirectionConfig → ℕ → ℕ → ℕ → ℕ → Tables → Handed (Unit {0})
create_of cfg seed salt cap width t =
    let made = new_engine_of cfg (direction_seed_of seed salt) in
    created_by made.1 made.0 (queue_of cap width t)
