-- A state of 0 stays 0, and a generator that was made from a seed never comes to it.
use Rattle.std.specs.Prelude.{◌≡◌, ℕ, zero, suc, ◌+◌, ◌-◌, ◌*◌, ◌/◌, ◌%◌, ◌^◌, ◌<◌, ◌≤◌, Bool, true, false, cond, T, ◌==◌, ◌≢◌, bit_xor, refl}
use Rattle.std.proofs.Common.{sym, ap, ◌∙◌, div-mul-le_self, div-add-mod', mul-le-mul_left, mul_assoc, arith, pow-add, pow_mono}
use Rattle.std.proofs.Math.Nat.{mul-add-mod_self_right, mul-mod_left}
use Rattle.std.specs.Int.Bits.{xor_add_and}
use Rattle.std.proofs.lemmas.Nat.{and_le_l, and_le_r}
use Rattle.std.specs.Float.Ieee.Fits.{eq→eqb}
use Rattle.draws.specs.Shifts.{xor_shift_right, xor_shift_left, golden_gamma}
use Rattle.draws.specs.Rng.{new_rng_of, step_of, output_of, next_u64_of}

pub zero_stays : next_u64_of (record { state = 0 }) ≡ (record { state = 0 }, 0)
unfolding next_u64_of output_of step_of
zero_stays = refl

-- ---- a step leads to 0 from 0 alone
xor_equal : (a b : ℕ) → bit_xor a b ≡ 0 → a ≡ b
xor_equal a b h = omega (arith, xor_add_and a b, and_le_l a b, and_le_r a b)

right_zero : (k x : ℕ) → 0 < k → xor_shift_right x k ≡ 0 → x ≡ 0
right_zero k x h e = small (x / 2 ^ k) (2 ^ k) (pow_mono h) (div-mul-le_self x (2 ^ k)) (xor_equal x (x / 2 ^ k) e)
  where
    small : (q p : ℕ) → 2 ≤ p → q * p ≤ x → x ≡ q → x ≡ 0
    small q p h l e = omega (arith, mul-le-mul_left q h)

-- the remainder of a factor may be taken first
mod_mul : (a b m : ℕ) → (a % m * b) % m ≡ (a * b) % m
mod_mul a b m = sym (mul-add-mod_self_right (a / m * b) m (a % m * b)) ∙ ap (λ (z : ℕ). z % m) (split (a / m) (a % m) ∙ ap (λ (z : ℕ). z * b) (div-add-mod' a m))
  where
    split : (q r : ℕ) → q * b * m + r * b ≡ (q * m + r) * b
    split q r = omega arith

-- what a left shift leaves alone, any number of left shifts leave alone
shifted : (k x m n : ℕ) → x ≡ x * 2 ^ k % m → x ≡ x * 2 ^ (n * k + k) % m
shifted k x m zero e = e ∙ ap (λ (j : ℕ). x * 2 ^ j % m) (once k)
  where
    once : (k : ℕ) → k ≡ 0 * k + k
    once k = omega arith
shifted k x m (suc n) e =
    let j = n * k + k in
    e
    ∙ ap (λ (z : ℕ). z * 2 ^ k % m) (shifted k x m n e)
    ∙ mod_mul (x * 2 ^ j) (2 ^ k) m
    ∙ ap (λ (z : ℕ). z % m) (mul_assoc x (2 ^ j) (2 ^ k) ∙ ap (λ (z : ℕ). x * z) (sym (pow-add 2 j k)))
    ∙ ap (λ (i : ℕ). x * 2 ^ i % m) (more n k)
  where
    more : (n k : ℕ) → n * k + k + k ≡ suc n * k + k
    more n k = omega arith

left_zero : (k x : ℕ) → 0 < k → xor_shift_left x k ≡ 0 → x ≡ 0
left_zero k x h e =
    shifted k x (2 ^ 64) 63 (xor_equal x (x * 2 ^ k % 2 ^ 64) e)
    ∙ ap (λ (i : ℕ). x * 2 ^ i % 2 ^ 64) (past k h)
    ∙ ap (λ (z : ℕ). z % 2 ^ 64) (ap (λ (z : ℕ). x * z) (pow-add 2 (64 * k - 64) 64) ∙ sym (mul_assoc x (2 ^ (64 * k - 64)) (2 ^ 64)))
    ∙ mul-mod_left (x * 2 ^ (64 * k - 64)) (2 ^ 64)
  where
    past : (k : ℕ) → 0 < k → 63 * k + k ≡ 64 * k - 64 + 64
    past k h = omega arith

step_zero : (x : ℕ) → step_of x ≡ 0 → x ≡ 0
unfolding step_of
step_zero x e = right_zero 12 x (omega arith) (left_zero 25 (xor_shift_right x 12) (omega arith) (right_zero 27 (xor_shift_left (xor_shift_right x 12) 25) (omega arith) e))

-- the state after n draws
unfoldable pub state_after : ℕ → ℕ → ℕ
state_after zero x = x
state_after (suc n) x = state_after n (step_of x)

new_zero : (seed : ℕ) → (new_rng_of seed).state ≢ 0
unfolding new_rng_of
new_zero seed e = go (seed == 0) (eq→eqb {a = seed} {b = 0}) e
  where
    go : (b : Bool) → (seed ≡ 0 → T b) → cond b golden_gamma seed ≢ 0
    go true h e = omega arith
    go false h e = absurd (h e)

came : (n x : ℕ) → state_after n x ≡ 0 → x ≡ 0
unfolding state_after
came zero x e = e
came (suc n) x e = step_zero x (came n (step_of x) e)

pub never_zero : (n seed : ℕ) → state_after n (new_rng_of seed).state ≢ 0
never_zero n seed e = new_zero seed (came n (new_rng_of seed).state e)
