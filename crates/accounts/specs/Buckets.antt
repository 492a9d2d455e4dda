-- The buckets of a histogram of latencies.
use Rattle.std.specs.Prelude.{cond, List, [], ◌∷◌, map, ℕ, suc, Float}
use Rattle.std.specs.Float.Ieee.{lt}
use Rattle.numbers.specs.Whole.{whole}

-- the bounds in milliseconds, from stats.rs
abbrev pub bounds_ms : List ℕ
bounds_ms = 1 ∷ 2 ∷ 5 ∷ 10 ∷ 20 ∷ 50 ∷ 100 ∷ 200 ∷ 500 ∷ 1000 ∷ 5000 ∷ []

unfoldable pub bounds : List Float
bounds = map whole bounds_ms

-- how many bounds stand before the first that is above x; all, where none is
abbrev pub first_above : Float → List Float → ℕ
first_above x [] = 0
first_above x (b ∷ bs) = cond (lt x b) 0 (suc (first_above x bs))

-- the bucket of a latency (document 01, "Accounts"); a NaN is below no bound
unfoldable pub bucket_index_of : Float → ℕ
bucket_index_of x = first_above x bounds
