-- The token bucket's arithmetic, in bytes of credit, milliseconds and bits a second: 8,000 is the bits of a byte times the milliseconds of a second.
use Rattle.std.specs.Prelude.{Float}
use Rattle.std.specs.Float.{binary64}
use Rattle.std.specs.Float.Ieee.{add, mul, div, neg}
use Rattle.numbers.specs.Whole.{whole}
use Rattle.numbers.specs.Extremes.{minimum_of}

-- the credit after some milliseconds, up to the capacity
unfoldable pub refilled_of : Float → Float → Float → Float → Float
refilled_of tokens elapsed rate capacity = minimum_of (add binary64 tokens (div binary64 (mul binary64 elapsed rate) (whole 8000))) capacity

-- how many milliseconds it takes to pay a debt
unfoldable pub wait_of : Float → Float → Float
wait_of tokens rate = div binary64 (mul binary64 (neg tokens) (whole 8000)) rate
