-- What is taken so far, taken on over what is left, is what the whole gives.
use Rattle.std.proofs.Common.{◌≡◌, drop}
use Rattle.script.specs.Beyond.{all_further}
use Rattle.script.proofs.beyond.Beyond.further_all.Given as goal

abbrev pub invariant-loop-byte : goal.invariant-loop-byte
invariant-loop-byte l = all_further l.beyond (drop l.byte-index l.bytes) ≡ all_further l.fn.self l.bytes
