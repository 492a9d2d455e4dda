-- What kind of value a float is: a number, finite, with a clear sign bit. A law matches on the kind, and so meets only the cases that it allows.
use Rattle.std.specs.Prelude.{◌≡◌, ℕ, ◌*◌, Bool, true, false, not, T, ℤ, ◌==◌, refl, Float}
use Rattle.std.proofs.Common.{true≢false}
use Rattle.std.proofs.Math.Dec.{eqb_refl}
use Rattle.std.specs.Float.{nan, inf, fin}
use Rattle.std.specs.Float.Ieee.{is_nan, eq, ne, up, down}
use Rattle.std.specs.Float.Ieee.Bits.{is_true}
use Rattle.std.specs.Float.Ieee.Exact.{HasValue}

-- no NaN
pub data Number : Float → Type 0 where
  number_inf : (s : Bool) → Number (inf s)
  number_fin : (s : Bool) (m : ℕ) (e : ℤ) → Number (fin s m e)

-- neither NaN nor infinite
pub data Finite : Float → Type 0 where
  finite_fin : (s : Bool) (m : ℕ) (e : ℤ) → Finite (fin s m e)

-- a number whose sign bit is clear
pub data Plus : Float → Type 0 where
  plus_inf : Plus (inf false)
  plus_fin : (m : ℕ) (e : ℤ) → Plus (fin false m e)

-- a finite number whose sign bit is clear
pub data PlusFinite : Float → Type 0 where
  plus_finite : (m : ℕ) (e : ℤ) → PlusFinite (fin false m e)

pub number_of : (x : Float) → T (not (is_nan x)) → Number x
unfolding is_nan
number_of nan h = absurd h
number_of (inf s) h = number_inf s
number_of (fin s m e) h = number_fin s m e

pub number_is : {x : Float} → Number x → is_nan x ≡ false
unfolding is_nan
number_is (number_inf s) = refl
number_is (number_fin s m e) = refl

pub plus_number : {x : Float} → Plus x → Number x
plus_number plus_inf = number_inf false
plus_number (plus_fin m e) = number_fin false m e

pub finite_number : {x : Float} → Finite x → Number x
finite_number (finite_fin s m e) = number_fin s m e

pub plus_finite_number : {x : Float} → PlusFinite x → Number x
plus_finite_number (plus_finite m e) = number_fin false m e

pub plus_finite_plus : {x : Float} → PlusFinite x → Plus x
plus_finite_plus (plus_finite m e) = plus_fin m e

-- only a NaN differs from itself
pub nan_differs : (x : Float) → is_nan x ≡ ne x x
unfolding is_nan ne eq
nan_differs nan = refl
nan_differs (inf true) = refl
nan_differs (inf false) = refl
nan_differs (fin true m e) = rw (is_true (m * up e * down e == m * up e * down e) (eqb_refl (m * up e * down e)))
nan_differs (fin false m e) = rw (is_true (m * up e * down e == m * up e * down e) (eqb_refl (m * up e * down e)))

pub self_equal : (x : Float) → ne x x ≡ false → Number x
self_equal x h = number_of x (rw (nan_differs x, h) tt)

-- what has a value with a clear sign bit is finite
pub value_plus : (x : Float) (a c : ℕ) → HasValue x false a c → PlusFinite x
value_plus nan a c v = absurd v
value_plus (inf s) a c v = absurd v
value_plus (fin true m e) a c v = absurd (true≢false v.0)
value_plus (fin false m e) a c v = plus_finite m e
