-- The top bits of a 64-bit number, for every width.
use Rattle.std.specs.Prelude.{◌≡◌, ℕ, ◌+◌, ◌-◌, ◌/◌, ◌^◌, ◌<◌, ◌≤◌}
use Rattle.std.proofs.Common.{ap, subst, ◌∙◌, arith, shr_lt, shr-shr}
use Rattle.draws.specs.Shifts.{top_bits}

pub top_lt : (w x : ℕ) → w ≤ 64 → x < 2 ^ 64 → top_bits w x < 2 ^ w
top_lt w x h l = shr_lt w (64 - w) (subst (λ (k : ℕ). x < 2 ^ k) (all w h) l)
  where
    all : (w : ℕ) → w ≤ 64 → 64 ≡ w + (64 - w)
    all w h = omega arith

-- the top w bits are the top w of the top v
pub top_of_top : (v w x : ℕ) → w ≤ v → v ≤ 64 → top_bits v x / 2 ^ (v - w) ≡ top_bits w x
top_of_top v w x h k = shr-shr x (64 - v) (v - w) ∙ ap (λ (j : ℕ). x / 2 ^ j) (dropped v w h k)
  where
    dropped : (v w : ℕ) → w ≤ v → v ≤ 64 → 64 - v + (v - w) ≡ 64 - w
    dropped v w h k = omega arith
