-- Burst loss that is read passes refusal 29's judgement.
use Rattle.std.specs.Prelude.{◌≡◌, Bool, true, false, cond, ◌||◌, Option, Some, None, Ok, Err, IfOk, List, ℕ, Float}
use Rattle.std.specs.Float.Ieee.{le}
use Rattle.numbers.specs.Laws.Both.{both}
use Rattle.numbers.specs.Laws.Results.{then_taken}
use Rattle.numbers.specs.Whole.{whole}
use Rattle.numbers.specs.declared.refusal.Refusal.TheVariants as refusal
use Rattle.values.specs.Decimal.{parse_prob_of}
use Rattle.values.specs.Parts.{colons_of}
use Rattle.settings.specs.Bursts.{bursts_of, ge_parts, ge_parted, parse_ge_of}
use Rattle.settings.specs.Judgement.{is_probability, are_chances}
use Rattle.settings.specs.Laws.Numbers.{prob_judged}

bursts_judged : (p r h : Float) → is_probability p ≡ true → is_probability r ≡ true → is_probability h ≡ true → IfOk (bursts_of p r h) (λ g. are_chances g ≡ true)
bursts_judged p r h i j k = go (le p (whole 0) || le r (whole 0))
  where
    go : (t : Bool) → IfOk (cond t (Err refusal.GeZero) (Ok (record { p = p; r = r; h = h }))) (λ g. are_chances g ≡ true)
    go true = tt
    go false = both _ _ i (both _ _ j k)

parts_judged : (p r h : List ℕ) → IfOk (ge_parts p r h) (λ g. are_chances g ≡ true)
parts_judged p r h =
    then_taken _ _ (parse_prob_of p) _ (prob_judged p) (λ x i. then_taken _ _ (parse_prob_of r) _ (prob_judged r) (λ y j. then_taken _ _ (parse_prob_of h) _ (prob_judged h) (λ z k.
    bursts_judged x y z i j k)))

pub ge_judged : (v : List ℕ) → IfOk (parse_ge_of v) (λ g. are_chances g ≡ true)
ge_judged v = go (colons_of v)
  where
    go : (o : Option (List ℕ × List ℕ × List ℕ)) → IfOk (ge_parted o) (λ g. are_chances g ≡ true)
    go None = tt
    go (Some (p, r, h)) = parts_judged p r h
