-- A record of latencies: one latency more, and two records joined.
use Rattle.std.specs.Prelude.{Bool, cond, not, ◌||◌, List, [], ◌∷◌, ℕ, ◌+◌, eqb, get_or, set, replicate, Float}
use Rattle.std.specs.Float.{binary64}
use Rattle.std.specs.Float.Ieee.{add, lt, eq}
use Rattle.numbers.specs.Whole.{whole}
use Rattle.numbers.specs.Extremes.{maximum_of, minimum_of}
use Rattle.accounts.specs.declared.latency.LatencyStats.{LatencyStats}
use Rattle.accounts.specs.Buckets.{bucket_index_of}

-- no latencies, all fields 0
unfoldable pub no_latencies : LatencyStats
no_latencies = record { count = 0; sum_ms = whole 0; min_ms = whole 0; max_ms = whole 0; hist = replicate 12 0 }

-- a histogram with one more in bucket i
unfoldable pub counted_in : ℕ → List ℕ → List ℕ
counted_in i hist = set hist i (get_or hist i 0 + 1)

-- the first latency is the minimum, whatever stood there; after it, a lower one (document 01, "Accounts")
unfoldable pub minimum_with_of : ℕ → Float → Float → Float
minimum_with_of count min x = cond (eqb count 0 || lt x min) x min

-- a latency above the maximum is the new one
unfoldable pub maximum_with_of : Float → Float → Float
maximum_with_of max x = cond (lt max x) x max

-- a record with the latency x counted
unfoldable pub recorded_of : LatencyStats → Float → LatencyStats
recorded_of l x =
    record {
      count = l.count + 1;
      sum_ms = add binary64 l.sum_ms x;
      min_ms = minimum_with_of l.count l.min_ms x;
      max_ms = maximum_with_of l.max_ms x;
      hist = counted_in (bucket_index_of x) l.hist;
    }

abbrev pub has_latencies : LatencyStats → Bool
has_latencies l = not (eqb l.count 0)

-- the minimum of a merge (document 01, "Accounts"): without latencies of the accountant the target's stays; a target's 0 gives way to the accountant's; any other
-- stays, but where the target has no latencies the smaller of the two counts
unfoldable pub joined_minimum_of : LatencyStats → LatencyStats → Float
joined_minimum_of target l =
    cond (has_latencies l)
    (cond (eq target.min_ms (whole 0)) l.min_ms
    (cond (not (has_latencies target)) (minimum_of target.min_ms l.min_ms) target.min_ms))
    target.min_ms

-- the larger where the accountant has latencies
unfoldable pub joined_maximum_of : LatencyStats → LatencyStats → Float
joined_maximum_of target l = cond (has_latencies l) (maximum_of target.max_ms l.max_ms) target.max_ms

-- the sums of two lists, entry by entry
abbrev pub sums : List ℕ → List ℕ → List ℕ
sums [] ys = []
sums (x ∷ xs) [] = x ∷ xs
sums (x ∷ xs) (y ∷ ys) = (x + y) ∷ sums xs ys

-- the target with the accountant's latencies joined
unfoldable pub joined_of : LatencyStats → LatencyStats → LatencyStats
joined_of target l =
    record {
      count = target.count + l.count;
      sum_ms = add binary64 target.sum_ms l.sum_ms;
      min_ms = joined_minimum_of target l;
      max_ms = joined_maximum_of target l;
      hist = sums target.hist l.hist;
    }
