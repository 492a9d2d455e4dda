-- No draw is rounded: it is the top bits of its output over their number of values, and so from 0 up to 1.
use Rattle.std.specs.Prelude.{◌≡◌, ℕ, ◌*◌, ◌^◌, ◌<◌, ◌≤◌, true, false}
use Rattle.std.proofs.Common.{◌∙◌, mul-one, mod-lt, le_refl, arith, lt-ltb, lit≤, lit<, pow_pos}
use Rattle.std.specs.Float.Ieee.{lt}
use Rattle.std.specs.Float.Ieee.Exact.{HasValue}
use Rattle.numbers.specs.Laws.Kinds.{PlusFinite, value_plus}
use Rattle.numbers.specs.Laws.Whole.{lt_values}
use Rattle.draws.specs.declared.rng.Rng.{Rng}
use Rattle.draws.specs.Shifts.{top_bits}
use Rattle.draws.specs.Rng.{power_below, fraction_of, output_of, draw_width, next_f64_of}
use Rattle.draws.specs.Laws.Top.{top_lt}
use Rattle.draws.proofs.Scaled.{power_value, scaled_exact}

pub fraction_exact : (w x : ℕ) → w ≤ 53 → x < 2 ^ 64 → HasValue (fraction_of w x) false (top_bits w x) (2 ^ w)
unfolding fraction_of
fraction_exact w x h l = scaled_exact w (top_bits w x) h (top_lt w x (omega arith) l)

pub output_lt : (x : ℕ) → output_of x < 2 ^ 64
unfolding output_of
output_lt x = mod-lt _ (pow_pos 64)

-- every draw is the top bits of its output over their number of values
pub draw_exact : (g : Rng) → HasValue (next_f64_of g).1 false (top_bits draw_width (output_of g.state)) (2 ^ draw_width)
unfolding next_f64_of
draw_exact g = fraction_exact draw_width (output_of g.state) (le_refl draw_width) (output_lt g.state)

-- a draw is finite with a clear sign bit, and below 1
pub draw_plus : (g : Rng) → PlusFinite (next_f64_of g).1
draw_plus g = value_plus _ _ _ (draw_exact g)

pub draw_below_one : (g : Rng) → lt (next_f64_of g).1 (power_below 0) ≡ true
draw_below_one g =
    let k = top_bits draw_width (output_of g.state) in
    lt_values _ (power_below 0) k (2 ^ draw_width) 1 1 (pow_pos draw_width) (lit< tt) (draw_exact g) (power_value 0)
    ∙ lt-ltb (k * 1) (1 * 2 ^ draw_width) (rw mul-one (top_lt draw_width (output_of g.state) (lit≤ tt) (output_lt g.state)))
