-- Which refusal meets a call, in document 01's order (section "Who can cause a refusal"). 29 is judged at creation; what 27 or 29 would refuse later is altered state and gives 26;
-- 28 is counted instead. 26 is found where the parts are used, after these.
use Rattle.std.specs.Prelude.{Bool, List, [], ◌∷◌, Result}
use Rattle.numbers.specs.Checks.{Test, test, first_refusal}
use Rattle.numbers.specs.declared.refusal.Refusal.{Refusal}
use Rattle.numbers.specs.declared.refusal.Refusal.TheVariants as refusal
use Rattle.machine.specs.Machine.{in_range}
use Rattle.device.specs.declared.device.Device.{Device}

-- the tests of a call, each passed or not
abbrev pub device_checks : Bool → Bool → Bool → Bool → List Test
device_checks memory instant short counters = test memory refusal.Memory ∷ test instant refusal.Instant ∷ test short refusal.Length ∷ test counters refusal.Counter ∷ []

-- what meets a call whose memory, instant and length pass or not; 25 is judged in every call
unfoldable pub call_refusal : Device → Bool → Bool → Bool → Result (Unit {0}) Refusal
call_refusal d memory instant short = first_refusal (device_checks memory instant short (in_range d.engine d.accounts d.torn d.queue.next_seq))
