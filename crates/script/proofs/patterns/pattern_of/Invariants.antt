-- What is read so far, read on over what is left, is what the whole gives; i digits give less than 16 ^ i.
use Rattle.std.proofs.Common.{◌≡◌, ◌^◌, ◌<◌, drop}
use Rattle.script.specs.Patterns.{pattern_from}
use Rattle.script.proofs.patterns.pattern_of.Given as goal

abbrev pub invariant-loop-byte : goal.invariant-loop-byte
invariant-loop-byte l = record {
  below : l.bits < 16 ^ l.byte-index;
  same : pattern_from l.bits (drop l.byte-index l.digits) ≡ pattern_from 0 l.digits;
}
