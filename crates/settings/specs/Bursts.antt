-- Burst loss: three probabilities, of which p and r are not zero.
use Rattle.std.specs.Prelude.{◌||◌, cond, Option, Some, None, Result, Ok, Err, List, ℕ, Float}
use Rattle.std.specs.Float.Ieee.{le}
use Rattle.numbers.specs.Results.{and_then}
use Rattle.numbers.specs.Whole.{whole}
use Rattle.numbers.specs.declared.refusal.Refusal.{Refusal}
use Rattle.numbers.specs.declared.refusal.Refusal.TheVariants as refusal
use Rattle.values.specs.Decimal.{parse_prob_of}
use Rattle.values.specs.Parts.{colons_of}
use Rattle.settings.specs.declared.ge.Ge.{Ge}

-- refusal 13: the chances to turn bad and to turn good again are not zero
abbrev pub bursts_of : Float → Float → Float → Result Ge Refusal
bursts_of p r h = cond (le p (whole 0) || le r (whole 0)) (Err refusal.GeZero) (Ok (record { p = p; r = r; h = h }))

-- the first of the three that is refused counts, then 13
abbrev pub ge_parts : List ℕ → List ℕ → List ℕ → Result Ge Refusal
ge_parts p r h = and_then (parse_prob_of p) (λ p. and_then (parse_prob_of r) (λ r. and_then (parse_prob_of h) (λ h. bursts_of p r h)))

-- colons part the three chances; refusal 12 where they are not three
abbrev pub ge_parted : Option (List ℕ × List ℕ × List ℕ) → Result Ge Refusal
ge_parted None = Err refusal.GeParts
ge_parted (Some (p, r, h)) = ge_parts p r h

abbrev pub parse_ge_of : List ℕ → Result Ge Refusal
parse_ge_of v = ge_parted (colons_of v)
