-- What is at most 2 ^ 53 is a number; then only its sign bit, the highest of its pattern, is left to test.
use Rattle.std.proofs.Common.{◌≡◌, true, false, not, sym, refl, ap, true≢false}
use mathlib.Core.Bool.{or-true, or-false}
use Rattle.std.specs.Float.{is_sign_negative}
use lib.Ieee.{Float, nan, inf, fin, of_bits, is_nan, le}
use Rattle.numbers.specs.Instant.{last_instant, is_instant_of}
use Rattle.numbers.specs.Laws.Kinds.{Number, number_inf, number_fin, number_is}
use Rattle.numbers.specs.Laws.Order.{lt_is_not_le}
use Rattle.numbers.proofs.instant.is_instant.Goals as goal

-- what is at most anything is a number
compared : (t y : Float) → le t y ≡ true → Number t
unfolding le
compared nan y h = absurd (true≢false (sym h))
compared (inf s) y h = number_inf s
compared (fin s m e) y h = number_fin s m e

bound : Number last_instant
bound = number_fin false 1 _

-- for a number at most 2 ^ 53
within : (t : Float) → le t last_instant ≡ true → not (is_sign_negative t) ≡ is_instant_of t
unfolding is_instant_of is_sign_negative is_nan
within nan h = absurd (true≢false (number_is (compared nan _ h)))
within (inf s) h = rw (lt_is_not_le (number_inf s) bound, h) (ap not (sym (or-false s)))
within (fin s m e) h = rw (lt_is_not_le (number_fin s m e) bound, h) (ap not (sym (or-false s)))

-- for one above it, and for NaN
beyond : (t : Float) → le t last_instant ≡ false → false ≡ is_instant_of t
unfolding is_instant_of is_nan
beyond nan h = refl
beyond (inf s) h = rw (lt_is_not_le (number_inf s) bound, h) (ap not (sym (or-true s)))
beyond (fin s m e) h = rw (lt_is_not_le (number_fin s m e) bound, h) (ap not (sym (or-true s)))

pub is_sign_negative-requires : goal.is_sign_negative-requires
unfolding of_bits
is_sign_negative-requires c = rw (number_is (compared c.args.t _ c.if-t.true)) tt

pub returns-then-t : goal.returns-then-t
unfolding of_bits
returns-then-t c = rw c.is_sign_negative.ensures (within c.args.t c.if-t.true)

pub returns-else-t : goal.returns-else-t
unfolding of_bits
returns-else-t c = cc (c.if-t.false, beyond c.args.t c.if-t.false)
