-- A maximum or a minimum is one of its operands; of two numbers the maximum is below neither, and the minimum above neither.
use Rattle.std.specs.Prelude.{◌≡◌, Bool, true, false, cond, not, ◌||◌, T, is_nan, Float}
use Rattle.std.proofs.Common.{sym, ◌∙◌, true≢false}
use Rattle.std.specs.Float.Ieee.{lt, le, eq, ne}
use Rattle.numbers.specs.Extremes.{chosen_of, maximum_of, minimum_of}
use Rattle.numbers.specs.Laws.Kinds.{Number, number_is, nan_differs}
use Rattle.numbers.specs.Laws.NotNan.{cond_has}
use Rattle.numbers.specs.Laws.Order.{lt_is_not_le}

-- what holds of both operands holds of the one chosen
pub chosen_has : (P : Float → Type 0) (b : Bool) {x y : Float} → P x → P y → P (chosen_of b x y)
unfolding chosen_of
chosen_has P b {x} {y} p q = cond_has P (is_nan x) q (cond_has P (is_nan y) p (cond_has P b q p))

-- of two numbers the test alone decides
pub chosen_number : (b : Bool) {x y : Float} → Number x → Number y → chosen_of b x y ≡ cond b y x
unfolding chosen_of
chosen_number b p q = rw (number_is p, number_is q)

-- ---- of two numbers
not_false : (b : Bool) → false ≡ not b → T b
not_false true h = tt
not_false false h = absurd (true≢false (sym h))

or_left : (a b : Bool) → T a → T (a || b)
or_left true b t = tt
or_left false b t = absurd t

or_right : (a b : Bool) → T b → T (a || b)
or_right true b t = tt
or_right false b t = t

lt_le : (x y : Float) → T (lt x y) → T (le x y)
unfolding le
lt_le x y t = or_left (lt x y) (eq x y) t

pub le_self : {x : Float} → Number x → T (le x x)
unfolding le ne
le_self {x} p = or_right (lt x x) (eq x x) (not_false (eq x x) (sym (number_is p) ∙ nan_differs x))

pub maximum_above : {x y : Float} → Number x → Number y → T (le x (maximum_of x y)) × T (le y (maximum_of x y))
maximum_above {x} {y} p q = rw (chosen_number (lt x y) p q) (go (lt x y) (lt_le x y) (lt_is_not_le q p))
  where
    go : (b : Bool) → (T b → T (le x y)) → b ≡ not (le y x) → T (le x (cond b y x)) × T (le y (cond b y x))
    go true l e = (l tt, le_self q)
    go false l e = (le_self p, not_false (le y x) e)

pub minimum_below : {x y : Float} → Number x → Number y → T (le (minimum_of x y) x) × T (le (minimum_of x y) y)
minimum_below {x} {y} p q = rw (chosen_number (lt y x) p q) (go (lt y x) (lt_le y x) (lt_is_not_le p q))
  where
    go : (b : Bool) → (T b → T (le y x)) → b ≡ not (le x y) → T (le (cond b y x) x) × T (le (cond b y x) y)
    go true l e = (l tt, le_self q)
    go false l e = (le_self p, not_false (le x y) e)
