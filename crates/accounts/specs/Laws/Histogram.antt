-- One latency more adds one to exactly one bucket, and joining adds bucket by bucket; so the buckets together hold as many latencies as are counted.
use Rattle.std.specs.Prelude.{◌≡◌, refl, ◌≢◌, List, [], ◌∷◌, ℕ, zero, suc, ◌+◌, ◌<◌, length, get_or, set, Float}
use Rattle.std.proofs.Common.{sym, ap, ◌∙◌, le_of_suc-le-suc, arith, length-set}
use Rattle.std.proofs.Math.Seq.{get_or-set_same, get_or-set_other}
use Rattle.accounts.specs.declared.latency.LatencyStats.{LatencyStats}
use Rattle.accounts.specs.Buckets.{bucket_index_of}
use Rattle.accounts.specs.Latency.{no_latencies, counted_in, recorded_of, sums, joined_of}
use Rattle.accounts.specs.Laws.Buckets.{bucket_within}
use Rattle.accounts.specs.Laws.Sums.{sums_length}

-- the sum of a list
abbrev pub total : List ℕ → ℕ
total [] = 0
total (n ∷ ns) = n + total ns

module _ (l : LatencyStats) (x : Float) (twelve : length l.hist ≡ 12) where
  -- the latency's own bucket has one more
  pub bucket_counts : get_or (recorded_of l x).hist (bucket_index_of x) 0 ≡ get_or l.hist (bucket_index_of x) 0 + 1
  unfolding recorded_of counted_in
  bucket_counts = get_or-set_same l.hist (bucket_index_of x) (get_or l.hist (bucket_index_of x) 0 + 1) 0 (rw twelve (bucket_within x))

  -- every other bucket stays as it was
  pub others_stay : (i : ℕ) → i ≢ bucket_index_of x → get_or (recorded_of l x).hist i 0 ≡ get_or l.hist i 0
  unfolding recorded_of counted_in
  others_stay i other = get_or-set_other l.hist (bucket_index_of x) i (get_or l.hist (bucket_index_of x) 0 + 1) 0 other

total_set : (ns : List ℕ) (i : ℕ) → i < length ns → total (set ns i (get_or ns i 0 + 1)) ≡ total ns + 1
total_set [] i h = omega (arith, h)
total_set (n ∷ ns) zero h = omega arith
total_set (n ∷ ns) (suc i) h = omega (arith, total_set ns i (le_of_suc-le-suc h))

total_sums : (ms ns : List ℕ) → length ms ≡ length ns → total (sums ms ns) ≡ total ms + total ns
total_sums [] [] h = refl
total_sums [] (n ∷ ns) h = omega (arith, h)
total_sums (m ∷ ms) [] h = omega (arith, h)
total_sums (m ∷ ms) (n ∷ ns) h = omega (arith, total_sums ms ns (omega (arith, h)))

-- twelve buckets that together hold as many latencies as are counted
pub record Tallied (l : LatencyStats) : Type 0 where
  pub twelve : length l.hist ≡ 12
  pub all : total l.hist ≡ l.count

pub none_tallied : Tallied no_latencies
unfolding no_latencies
none_tallied = record { twelve = refl; all = refl }

pub recorded_tallied : (l : LatencyStats) (x : Float) → Tallied l → Tallied (recorded_of l x)
unfolding recorded_of counted_in
recorded_tallied l x t = record { twelve = length-set l.hist (bucket_index_of x) (get_or l.hist (bucket_index_of x) 0 + 1) ∙ t.twelve; all = total_set l.hist (bucket_index_of x) (rw t.twelve (bucket_within x)) ∙ ap (λ (n : ℕ). n + 1) t.all }

pub joined_tallied : (target l : LatencyStats) → Tallied target → Tallied l → Tallied (joined_of target l)
unfolding joined_of
joined_tallied target l t u = record { twelve = sums_length target.hist l.hist ∙ t.twelve; all = total_sums target.hist l.hist (t.twelve ∙ sym u.twelve) ∙ rw (t.all, u.all) }
