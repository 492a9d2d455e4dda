-- A number of w bits times 2 ^ -w is exact in binary64 for every width up to 53.
use Rattle.std.specs.Prelude.{◌≡◌, ℕ, zero, suc, ◌+◌, ◌-◌, ◌*◌, ◌^◌, ◌<◌, ◌≤◌, false, refl}
use Rattle.std.proofs.Common.{sym, ap, ◌∙◌, mul_assoc, mul-one, one-mul, le_of_lt, lt_of_lt_of_le, arith, lit<, pow_pos, pow-add, pow_mono, shl_lt}
use Rattle.std.specs.Float.{binary64}
use Rattle.std.specs.Float.Ieee.{mul, round}
use Rattle.std.specs.Float.Ieee.Exact.{HasValue, round_exact}
use Rattle.numbers.specs.Whole.{whole}
use Rattle.numbers.specs.Limits.{max_exact}
use Rattle.numbers.specs.Laws.Kinds.{value_plus}
use Rattle.numbers.specs.Laws.Products.{mul_values}
use Rattle.numbers.specs.Laws.Whole.{whole_value_lem}
use Rattle.draws.specs.Rng.{power_below}

-- k over 2 ^ w is a value of the format
quotient_exact : (w k : ℕ) → w ≤ 53 → k < 2 ^ w → HasValue (round binary64 false k (2 ^ w)) false k (2 ^ w)
quotient_exact w k h l =
    let few : k < max_exact = lt_of_lt_of_le l (pow_mono h) in
    round_exact binary64 false k (2 ^ w) k (1074 - w) (pow_pos w) few
    (lt_of_lt_of_le (shl_lt 53 (1074 - w) few) (pow_mono (room w)))
    (ap (λ (z : ℕ). k * z) (ap (λ (z : ℕ). 2 ^ z) (back w h) ∙ pow-add 2 (1074 - w) w) ∙ sym (mul_assoc k (2 ^ (1074 - w)) (2 ^ w)))
  where
    room : (w : ℕ) → 53 + (1074 - w) ≤ 2098
    room w = omega arith

    back : (w : ℕ) → w ≤ 53 → 1074 ≡ 1074 - w + w
    back w h = omega arith

pub power_value : (w : ℕ) → HasValue (power_below w) false 1 (2 ^ w)
power_value zero = (refl, refl)
power_value (suc k) = (refl, refl)

-- the shared fact of every width
pub scaled_exact : (w k : ℕ) → w ≤ 53 → k < 2 ^ w → HasValue (mul binary64 (whole k) (power_below w)) false k (2 ^ w)
scaled_exact w k h l =
    let v = whole_value_lem binary64 k (le_of_lt (lt_of_lt_of_le l (pow_mono h))) in
    let p = power_value w in
    rw (mul_values binary64 k 1 1 (2 ^ w) (value_plus _ k 1 v) (value_plus _ 1 (2 ^ w) p) (lit< tt) (pow_pos w) v p, mul-one k, one-mul (2 ^ w)) (quotient_exact w k h l)
