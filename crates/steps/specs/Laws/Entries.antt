-- The counted entries of a list are those up to the entry count, which is at most its length.
use Rattle.std.specs.Prelude.{◌≡◌, List, ℕ, ◌≤◌, min, length, take}
use Rattle.std.proofs.Common.{arith, length-take}
use Rattle.std.proofs.lemmas.List.{take_min}
use Rattle.numbers.specs.Limits.{max_entries}

-- n of the entries of a list are the counted ones; of a list as long as those of the settings they are at most 128
pub record CountedEntries {A : Type 0} (l : List A) (count n : ℕ) : Type 0 where
  pub within : length l ≡ max_entries → n ≤ max_entries
  pub short : n ≤ length l
  pub takes : take n l ≡ take count l

-- the least of the count and of the length is such a number
pub first_entries : {A : Type 0} (l : List A) (count n : ℕ) → n ≡ min count (length l) → CountedEntries l count n
first_entries l count n is = record { within = λ long. omega (arith, is, long); short = omega (arith, is); takes = rw (is, take_min count l) }

-- what `front` of crate values cuts from a list are the counted entries
pub counted_entries : {A : Type 0} (l cut : List A) (count : ℕ) → cut ≡ take count l → CountedEntries l count (length cut)
counted_entries l cut count is = first_entries l count (length cut) (rw is (length-take count l))
