-- A rate, an MTU and a burst that are read pass refusal 29's judgement.
use Rattle.std.specs.Prelude.{◌≡◌, refl, Bool, true, false, cond, not, Option, Some, None, IfSome, Result, Ok, Err, IfOk, List, ℕ, ◌/◌, ◌≤◌, ltb, eqb}
use Rattle.std.proofs.Common.{arith, leb-true, lit≤}
use Rattle.values.specs.Whole.{is_bounded, parse_positive_of}
use Rattle.options.specs.Directions.{least_burst, default_burst_of, burst_of}
use Rattle.numbers.specs.Limits.{max_exact}
use Rattle.numbers.specs.Laws.Both.{both_true}
use Rattle.numbers.specs.Laws.NotNan.{cond_has}
use Rattle.numbers.specs.Results.{and_then, read_if}
use Rattle.numbers.specs.declared.refusal.Refusal.{Refusal}
use Rattle.settings.specs.Judgement.{is_positive}
use Rattle.settings.specs.Laws.Numbers.{bounded_is, limit_judged}
use Rattle.judgement.specs.Scalars.{is_limit, is_rate, is_mtu}

-- a rate or an MTU passes where it is positive, or where there is none
pub limit_is : (limit : Option ℕ) → IfSome limit (λ n. is_positive n ≡ true) → is_limit limit ≡ true
limit_is None h = refl
limit_is (Some n) h = h

limit_passes : (o : Option (List ℕ)) → IfOk (read_if parse_positive_of o) (λ limit. is_limit limit ≡ true)
limit_passes None = limit_is None tt
limit_passes (Some v) = go (parse_positive_of v) (limit_judged v)
  where
    go : (r : Result ℕ Refusal) → IfOk r (λ n. is_positive n ≡ true) → IfOk (and_then r (λ n. Ok (Some n))) (λ limit. is_limit limit ≡ true)
    go (Ok n) h = limit_is (Some n) h
    go (Err e) h = tt

pub rate_judged : (o : Option (List ℕ)) → IfOk (read_if parse_positive_of o) (λ rate. is_rate rate ≡ true)
rate_judged = limit_passes

pub mtu_judged : (o : Option (List ℕ)) → IfOk (read_if parse_positive_of o) (λ mtu. is_mtu mtu ≡ true)
mtu_judged = limit_passes

-- the burst of a rate that passes is bounded as the rate is
default_within : (bps : ℕ) → bps ≤ max_exact → is_bounded (default_burst_of bps) ≡ true
unfolding default_burst_of
default_within bps h = bounded_is _ (cond_has (λ (n : ℕ). n ≤ max_exact) (ltb (bps / 8) least_burst) (lit≤ tt) (omega arith))

pub burst_for : (burst : ℕ) → is_bounded burst ≡ true → (r : Option ℕ) → is_rate r ≡ true → is_bounded (burst_of burst r) ≡ true
unfolding burst_of
burst_for burst h None j = h
burst_for burst h (Some bps) j = go (eqb burst 0)
  where
    go : (t : Bool) → is_bounded (cond t (default_burst_of bps) burst) ≡ true
    go true = default_within bps (leb-true bps max_exact (both_true (not (eqb bps 0)) (is_bounded bps) j).1)
    go false = h
