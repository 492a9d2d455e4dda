-- How the code judges many counters at once: it gathers their bits. No public contract rests on this definition.
use Rattle.std.specs.Prelude.{List, ℕ, fold}
use Rattle.std.specs.Int.Bits.{bit_or}

-- the bits of n and of every number of a list together
abbrev pub bits_from : ℕ → List ℕ → ℕ
bits_from = fold bit_or
