-- A full bucket is a credit, what the refill and the charge leave is one too and at most the capacity, and what a debt waits is a number with a clear sign bit.
use Rattle.std.specs.Prelude.{◌≡◌, true, not, ℕ, ◌/◌, ◌^◌, ◌<◌, ◌≤◌, T, ltb, eqb, pos, Float, Option, Some, None}
use Rattle.std.proofs.Common.{arith, leb-true, ltb→lt, le→leb, lit≤}
use Rattle.std.proofs.lemmas.Bool.{eqb-false, not-true}
use Rattle.std.specs.Float.{binary64}
use Rattle.std.specs.Float.Ieee.{of_int, lt, le, fits}
use Rattle.std.specs.Float.Ieee.Fits.{of_int-fits}
use Rattle.std.specs.Float.Ieee.Positive.{positive, positive_of_value}
use Rattle.numbers.specs.Credit.{wait_of}
use Rattle.numbers.specs.Limits.{max_exact, max_length}
use Rattle.numbers.specs.Whole.{whole}
use Rattle.numbers.specs.Laws.Both.{both_true}
use Rattle.numbers.specs.Laws.Kinds.{Plus, PlusFinite, plus_finite, value_plus}
use Rattle.numbers.specs.Laws.NotNan.{cond_has}
use Rattle.numbers.specs.Laws.Whole.{whole_value_lem, whole_le}
use Rattle.numbers.specs.Laws.Bounded.{Bounded, whole_bounded}
use Rattle.numbers.specs.Laws.Credit.{Credit, plus_credit, credit_stays, credit_capped, longest_packet, wait_plus}
use Rattle.numbers.specs.Laws.Elapsed.{elapsed_bounded}
use Rattle.values.specs.Whole.{is_bounded}
use Rattle.judgement.specs.Scalars.{is_rate}
use Rattle.options.specs.Directions.{least_burst, default_burst_of}
use Rattle.steps.specs.Bucket.{rate_capacity_of, bucket_capacity_of, charged_of}

-- a rate that passes is above 0 and at most 2 ^ 53
rate_within : (bps : ℕ) → is_rate (Some bps) ≡ true → (0 < bps) × (bps ≤ max_exact)
rate_within bps h =
    let both = both_true (not (eqb bps 0)) (is_bounded bps) h in
    (omega (arith, eqb-false bps 0 (not-true (eqb bps 0) both.0)), leb-true bps max_exact both.1)

rate_capacity_within : (rate : Option ℕ) → is_rate rate ≡ true → rate_capacity_of rate ≤ max_exact
unfolding rate_capacity_of default_burst_of
rate_capacity_within None h = lit≤ tt
rate_capacity_within (Some bps) h = cond_has (λ (n : ℕ). n ≤ max_exact) (ltb (bps / 8) least_burst) (lit≤ tt) (omega (arith, (rate_within bps h).1))

capacity_clear : (rate : Option ℕ) (burst : ℕ) → is_rate rate ≡ true → is_bounded burst ≡ true → PlusFinite (whole (bucket_capacity_of rate burst))
unfolding bucket_capacity_of
capacity_clear rate burst h k =
    (whole_bounded _ (cond_has (λ (n : ℕ). n ≤ max_exact) (ltb 0 burst) (leb-true burst max_exact k) (rate_capacity_within rate h))).clear

-- a full bucket is a credit
pub full_credit : (rate : Option ℕ) (burst : ℕ) → is_rate rate ≡ true → is_bounded burst ≡ true → Credit (whole (bucket_capacity_of rate burst))
full_credit rate burst h k = plus_credit (of_int-fits binary64 (pos (bucket_capacity_of rate burst))) (capacity_clear rate burst h k)

packet_within : (len : ℕ) → len ≤ max_length → T (le (whole len) longest_packet)
unfolding of_int
packet_within len h = rw (whole_le len (2 ^ 14) (omega arith) (lit≤ tt)) (le→leb len (2 ^ 14) (omega arith))

-- a credit stays one
pub charged_credit : {tokens last now : Float} (rate : Option ℕ) (burst len : ℕ) → is_rate rate ≡ true → is_bounded burst ≡ true → len ≤ max_length
    → Credit tokens → T (fits binary64 last) → Bounded last → T (fits binary64 now) → Bounded now → Credit (charged_of tokens last rate burst now len)
unfolding charged_of of_int
charged_credit None burst len h k s t lf l nf n = t
charged_credit (Some bps) burst len h k s t lf l nf n =
    credit_stays t (elapsed_bounded nf lf n l) (whole_bounded bps (rate_within bps h).1) (capacity_clear (Some bps) burst h k)
    (of_int-fits binary64 (pos (bucket_capacity_of (Some bps) burst))) (whole_bounded len (omega arith)).clear (of_int-fits binary64 (pos len)) (packet_within len s)

-- with a rate it is at most the capacity
pub charged_capped : {tokens last now : Float} (bps burst len : ℕ) → is_rate (Some bps) ≡ true → is_bounded burst ≡ true → len ≤ max_length
    → Credit tokens → T (fits binary64 last) → Bounded last → T (fits binary64 now) → Bounded now
    → T (le (charged_of tokens last (Some bps) burst now len) (whole (bucket_capacity_of (Some bps) burst)))
unfolding charged_of of_int
charged_capped bps burst len h k s t lf l nf n =
    credit_capped t (elapsed_bounded nf lf n l) (whole_bounded bps (rate_within bps h).1) (capacity_clear (Some bps) burst h k)
    (of_int-fits binary64 (pos (bucket_capacity_of (Some bps) burst))) (whole_bounded len (omega arith)).clear

-- what a debt waits
pub wait_clear : {tokens : Float} (bps : ℕ) → is_rate (Some bps) ≡ true → Credit tokens → T (lt tokens (whole 0))
    → Plus (wait_of tokens (whole bps))
unfolding of_int
wait_clear {tokens} bps h t l =
    let within = rate_within bps h in
    let v = whole_value_lem binary64 bps within.1 in
    go (value_plus (whole bps) bps 1 v) (positive_of_value (whole bps) bps 1 v within.0)
  where
    go : {x : Float} → PlusFinite x → T (positive x) → Plus (wait_of tokens x)
    go (plus_finite n g) p = wait_plus n g t l (ltb→lt 0 n p)
