-- The sign bit of a number is the highest bit of its pattern.
use Rattle.std.specs.Prelude.{◌≡◌, ℕ, zero, suc, ◌+◌, ◌/◌, ◌%◌, Bool, true, false, cond, T, ◌==◌, nat_le, to_bits, refl, Float}
use Rattle.std.proofs.Common.{sym, ap, subst, ◌∙◌}
use Rattle.std.specs.Float.{nan, inf, Format}
use Rattle.std.specs.Float.Ieee.{fits, of_bits, of_fields, odd, top, ones, prec, hid, low}
use Rattle.std.specs.Float.Ieee.Bits.{of_bits-to_bits}
use Rattle.numbers.specs.Instant.{sign_bit}
use Rattle.numbers.specs.Laws.Kinds.{Number}

odd_sign : (d : ℕ) (s : Bool) (q k l : ℕ) → sign_bit (odd d s q k l) ≡ s
unfolding odd
odd_sign d s zero k l = refl
odd_sign d s (suc q) k l = refl

fields_sign : (f : Format) (s : Bool) (x t : ℕ) → Number (of_fields f s x t) → sign_bit (of_fields f s x t) ≡ s
unfolding of_fields
fields_sign f s zero t n = odd_sign (prec f) s t 0 (low f)
fields_sign f s (suc x) t n = go (suc x == ones f) (t == 0) n
  where
    tail : Float
    tail = odd (prec f) s (hid f + t) x (low f)

    go : (a b : Bool) → Number (cond a (cond b (inf s) nan) tail) → sign_bit (cond a (cond b (inf s) nan) tail) ≡ s
    go true true n = refl
    go true false n = elim n [ ]
    go false b n = odd_sign (prec f) s (hid f + t) x (low f)

pub sign_of_bits : (f : Format) {x : Float} → T (fits f x) → Number x → sign_bit x ≡ nat_le (top f) (to_bits f x)
unfolding of_bits
sign_of_bits f {x} h n =
    let b = to_bits f x in
    let back = of_bits-to_bits f x h in
    sym (ap sign_bit back) ∙ fields_sign f (nat_le (top f) b) (b % top f / hid f) (b % hid f) (subst Number (sym back) n)
