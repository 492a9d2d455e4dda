-- Two tests that both hold, or of which one does not.
use Rattle.std.specs.Prelude.{◌≡◌, Bool, true, false, ◌&&◌, refl}
use Rattle.std.proofs.Common.{sym, true≢false}
use Rattle.std.proofs.Math.Bool.{and-false}

pub both : (a b : Bool) → a ≡ true → b ≡ true → (a && b) ≡ true
both a b h k = rw (h, k)

pub both_true : (a b : Bool) → (a && b) ≡ true → (a ≡ true) × (b ≡ true)
both_true true b h = (refl, h)
both_true false b h = absurd (true≢false (sym h))

pub second_false : (a b : Bool) → b ≡ false → (a && b) ≡ false
second_false a b h = rw h (and-false a)
