-- What the steps of reading a decimal give; a reader of the definitions does not need it.
use Rattle.std.specs.Prelude.{ℕ, List, Float, Result, Ok, Err}
use Rattle.numbers.specs.Digits.{decimal_value}
use Rattle.numbers.specs.declared.refusal.Refusal.{Refusal}
use Rattle.numbers.specs.declared.refusal.Refusal.TheVariants as refusal
use Rattle.values.specs.Whole.{digits_from}

-- digits behind those that were read to a number
abbrev pub read_on : Result ℕ Refusal → List ℕ → Result ℕ Refusal
read_on (Ok n) s = digits_from n s
read_on (Err e) s = Err e

-- digits that were read, over 10 ^ k
unfoldable pub over_ten : Result ℕ Refusal → ℕ → Result Float Refusal
over_ten (Ok n) k = Ok (decimal_value n k)
over_ten (Err _) k = Err refusal.Decimal
