-- The product modulo 2 ^ (k + k) of two numbers from their halves of k bits, for every k.
use Rattle.std.proofs.Common.{◌≡◌, ℕ, ◌+◌, ◌*◌, ◌/◌, ◌%◌, ◌^◌, ◌<◌, sym, refl, ap, ◌∙◌, ap₂, lt_of_le_of_lt, le_of_lt, mul-le-mul_left, mul-lt-mul_of_pos_right, div-add-mod', arith, pow_pos, pow-add}
use native.Mathlib.Nat.{mul-add-mod_self_right}
use lib.Pow.{mod-mod-pow}
use Rattle.numbers.specs.Wrapping.{wrapping_mul_of}

-- a product of two halves fits the whole width
pub half_product : (k : ℕ) {a b : ℕ} → a < 2 ^ k → b < 2 ^ k → a * b < 2 ^ (k + k)
half_product k {a} {b} ha hb = rw (pow-add 2 k k) (lt_of_le_of_lt (mul-le-mul_left a (le_of_lt hb)) (mul-lt-mul_of_pos_right ha (pow_pos k)))

expand : (B ah al bh bl x q r : ℕ) → x ≡ ah * bl + al * bh → q * B + r ≡ x → (ah * B + al) * (bh * B + bl) ≡ (ah * bh + q) * (B * B) + (r * B + al * bl)
expand B ah al bh bl x q r e d = omega (arith, ap (λ (z : ℕ). z * B) d, ap (λ (z : ℕ). z * B) e)

pub halves : (k a b : ℕ) → let B = 2 ^ k in ((a / B * (b % B) + a % B * (b / B)) % 2 ^ (k + k) % B * B + a % B * (b % B)) % 2 ^ (k + k) ≡ (a * b) % 2 ^ (k + k)
halves k a b =
    let B = 2 ^ k in
    let x = a / B * (b % B) + a % B * (b / B) in
    let low = x % B * B + a % B * (b % B) in
    let high = a / B * (b / B) + x / B in
    ap (λ (z : ℕ). (z * B + a % B * (b % B)) % 2 ^ (k + k)) (mod-mod-pow x k k)
    ∙ sym (mul-add-mod_self_right high (2 ^ (k + k)) low)
    ∙ ap (λ (z : ℕ). (high * z + low) % 2 ^ (k + k)) (pow-add 2 k k)
    ∙ ap (λ (z : ℕ). z % 2 ^ (k + k)) (sym (expand B (a / B) (a % B) (b / B) (b % B) x (x / B) (x % B) refl (div-add-mod' x B)))
    ∙ ap₂ (λ (y z : ℕ). y * z % 2 ^ (k + k)) (div-add-mod' a B) (div-add-mod' b B)

-- `wrapping_mul` gives what the halves of 32 bits make
pub wrapping_mul_halves : (a b : ℕ) → let B = 2 ^ 32 in ((a / B * (b % B) + a % B * (b / B)) % 2 ^ 64 % B * B + a % B * (b % B)) % 2 ^ 64 ≡ wrapping_mul_of a b
wrapping_mul_halves a b = halves 32 a b

-- and for numbers of 64 bits no product of two halves goes past 64 bits
pub wrapping_mul_halves_fit : {a b : ℕ} → a < 2 ^ 64 → b < 2 ^ 64 → let B = 2 ^ 32 in (a / B * (b % B) < 2 ^ 64) × ((a % B * (b / B) < 2 ^ 64) × (a % B * (b % B) < 2 ^ 64))
wrapping_mul_halves_fit ha hb = (half_product 32 (omega arith) (omega arith), (half_product 32 (omega arith) (omega arith), half_product 32 (omega arith) (omega arith)))
