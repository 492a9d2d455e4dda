-- A burst loss, a window or a kill that is refused is refused before the mode checks of the option text.
use Rattle.std.specs.Prelude.{refl, ◌||◌, leb, Option, Some, None, List, ℕ}
use Rattle.std.specs.Float.Ieee.{le}
use Rattle.numbers.specs.Laws.Results.{then_refused, cond_refused}
use Rattle.numbers.specs.Refusals.{EarlyIfRefused}
use Rattle.numbers.specs.Whole.{whole}
use Rattle.values.specs.Blanks.{trimmed}
use Rattle.values.specs.Bytes.{bytes, same, split_once, colon}
use Rattle.values.specs.Decimal.{parse_prob_of}
use Rattle.values.specs.Laws.Early.{bounded_early, probability_early}
use Rattle.values.specs.Parts.{colons_of}
use Rattle.settings.specs.Bursts.{ge_parts, ge_parted, parse_ge_of}
use Rattle.settings.specs.Windows.{bound_of, bounds_of, parted, parse_window_of, parse_style_of, kill_parts, kill_parted, parse_kill_of}

chances_early : (p r h : List ℕ) → EarlyIfRefused (ge_parts p r h)
chances_early p r h =
    then_refused _ (parse_prob_of p) _ (probability_early p) (λ p _.
    then_refused _ (parse_prob_of r) _ (probability_early r) (λ r _.
    then_refused _ (parse_prob_of h) _ (probability_early h) (λ h _.
    cond_refused _ (le p (whole 0) || le r (whole 0)) _ _ refl tt)))

pub ge_early : (v : List ℕ) → EarlyIfRefused (parse_ge_of v)
ge_early v = go (colons_of v)
  where
    go : (o : Option (List ℕ × List ℕ × List ℕ)) → EarlyIfRefused (ge_parted o)
    go None = refl
    go (Some (p, r, h)) = chances_early p r h

bounds_early : (start end : List ℕ) → EarlyIfRefused (bounds_of start end)
bounds_early start end =
    then_refused _ (bound_of start) _ (bounded_early (trimmed start)) (λ s _.
    then_refused _ (bound_of end) _ (bounded_early (trimmed end)) (λ e _.
    cond_refused _ (leb e s) _ _ refl tt))

pub window_early : (v : List ℕ) → EarlyIfRefused (parse_window_of v)
window_early v = go (split_once colon v)
  where
    go : (o : Option (List ℕ × List ℕ)) → EarlyIfRefused (parted o)
    go None = refl
    go (Some p) = bounds_early p.0 p.1

style_early : (v : List ℕ) → EarlyIfRefused (parse_style_of v)
style_early v = cond_refused _ (same v (bytes "rst")) _ _ tt (cond_refused _ (same v (bytes "hold")) _ _ tt refl)

parts_early : (start end style : List ℕ) → EarlyIfRefused (kill_parts start end style)
parts_early start end style = then_refused _ (bounds_of start end) _ (bounds_early start end) (λ w _. then_refused _ (parse_style_of style) _ (style_early style) (λ s _. tt))

pub kill_early : (v : List ℕ) → EarlyIfRefused (parse_kill_of v)
kill_early v = go (colons_of v)
  where
    go : (o : Option (List ℕ × List ℕ × List ℕ)) → EarlyIfRefused (kill_parted o)
    go None = refl
    go (Some (start, end, style)) = parts_early start end style
