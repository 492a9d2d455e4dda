-- What the calls hand back, and a device with one of its parts replaced.
use Rattle.std.specs.Prelude.{Result}
use Rattle.numbers.specs.declared.refusal.Refusal.{Refusal}
use Rattle.accounts.specs.declared.accountant.SendAccountant.{SendAccountant}
use Rattle.engine.specs.declared.engine.ArrivalEngine.{ArrivalEngine}
use Rattle.queue.specs.declared.queue.ImpairQueue.{ImpairQueue}
use Rattle.device.specs.declared.device.Device.{Device}

-- the device that a call hands back, with its answer
abbrev pub Handed : Type 0 → Type 0
Handed A = Device × Result A Refusal

abbrev pub with_engine : Device → ArrivalEngine → Device
with_engine v e = record { engine = e; queue = v.queue; accounts = v.accounts; torn = v.torn }

abbrev pub with_queue : Device → ImpairQueue → Device
with_queue v q = record { engine = v.engine; queue = q; accounts = v.accounts; torn = v.torn }

abbrev pub with_accounts : Device → SendAccountant → Device
with_accounts v a = record { engine = v.engine; queue = v.queue; accounts = a; torn = v.torn }
