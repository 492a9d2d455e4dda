-- Step 7 of an arrival (document 01, "Arrival engine"), the token bucket: first the credit of the time since the last refill, up to the capacity, then the charge
-- for the packet, once however often it is copied. The arrival is the last refill from then on, even where its instant is an earlier one.
use Rattle.std.specs.Prelude.{Bool, false, cond, ℕ, ltb, Float, Option, Some, None}
use Rattle.std.specs.Float.{binary64}
use Rattle.std.specs.Float.Ieee.{sub, lt}
use Rattle.numbers.specs.Whole.{whole}
use Rattle.numbers.specs.Credit.{refilled_of}
use Rattle.numbers.specs.Extremes.{maximum_of}
use Rattle.options.specs.Directions.{default_burst_of}

-- the burst where there is one, else that of the rate
unfoldable pub rate_capacity_of : Option ℕ → ℕ
rate_capacity_of None = 0
rate_capacity_of (Some bps) = default_burst_of bps

unfoldable pub bucket_capacity_of : Option ℕ → ℕ → ℕ
bucket_capacity_of rate burst = cond (ltb 0 burst) burst (rate_capacity_of rate)

unfoldable pub charged_of : Float → Float → Option ℕ → ℕ → Float → ℕ → Float
charged_of tokens last None burst now len = tokens
charged_of tokens last (Some bps) burst now len =
    let elapsed = maximum_of (sub binary64 now last) (whole 0) in
    sub binary64 (refilled_of tokens elapsed (whole bps) (whole (bucket_capacity_of (Some bps) burst))) (whole len)

unfoldable pub last_refill_of : Float → Option ℕ → Float → Float
last_refill_of last None now = last
last_refill_of last (Some bps) now = now

-- whether the charge left a debt
unfoldable pub is_deferred_of : Option ℕ → Float → Bool
is_deferred_of None tokens = false
is_deferred_of (Some bps) tokens = lt tokens (whole 0)
