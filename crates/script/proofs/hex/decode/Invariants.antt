-- What is decoded so far, decoded on over what is left, is what the whole gives.
use Rattle.std.proofs.Common.{◌≡◌, length}
use Rattle.script.specs.Hex.{decode_from, decode_of}
use Rattle.script.proofs.hex.decode.Given as goal

abbrev pub invariant-loop-rest : goal.invariant-loop-rest
invariant-loop-rest l = decode_from l.text.items l.rest ≡ decode_of l.digits

abbrev pub decreases-loop-rest : goal.decreases-loop-rest
decreases-loop-rest l = length l.rest
