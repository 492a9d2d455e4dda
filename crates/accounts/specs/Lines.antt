-- The starred lines about latencies (document 01, "Lines to check"), as theorems about the definitions.
use Rattle.std.specs.Prelude.{◌≡◌, refl}
use Rattle.std.specs.Float.Ieee.{neg, lt, div, of_int}
use Rattle.numbers.specs.Whole.{whole}
use Rattle.numbers.specs.Digits.{decimal_value}
use Rattle.accounts.specs.Buckets.{bounds, bucket_index_of}

pub record AccountLines : Type 0 where
  -- 0.5 is 5 over 10
  pub half : bucket_index_of (decimal_value 5 1) ≡ 0
  pub one : bucket_index_of (whole 1) ≡ 1
  pub below_last : bucket_index_of (whole 4999) ≡ 10
  pub last : bucket_index_of (whole 5000) ≡ 11
  pub negative : bucket_index_of (neg (whole 3)) ≡ 0

pub account_lines : AccountLines
unfolding bucket_index_of bounds lt neg div of_int decimal_value
account_lines = record { half = refl; one = refl; below_last = refl; last = refl; negative = refl }
