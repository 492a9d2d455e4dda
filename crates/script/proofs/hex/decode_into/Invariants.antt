-- What is decoded so far, decoded on over what is left, is what the whole gives, as far as there is room.
use Rattle.std.proofs.Common.{◌≡◌, ◌≤◌, length, take, option_map}
use Rattle.script.specs.Hex.{decode_from, decode_of}
use Rattle.script.proofs.hex.decode_into.Given as goal

abbrev pub invariant-loop-rest : goal.invariant-loop-rest
invariant-loop-rest l = record {
  within : l.count ≤ length l.text;
  same : option_map (take (length l.text)) (decode_from (take l.count l.text) l.rest) ≡ option_map (take (length l.text)) (decode_of l.digits);
}

abbrev pub decreases-loop-rest : goal.decreases-loop-rest
decreases-loop-rest l = length l.rest
