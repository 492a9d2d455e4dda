-- The place of the first bound above, or how many there are.
use Rattle.std.proofs.Common.{rules, tests, ◌≡◌, ℕ, ◌+◌, ◌<◌, cond, Float, refl, ap, ◌∙◌, arith, Option, Some, None, nat_lt}
use Rattle.std.specs.Option.{unwrap_or}
use Rattle.std.specs.Float.Ieee.{lt, of_int}
use lib.Ieee.{of_bits}
use Rattle.std.proofs.lemmas.Iterator.{YieldsList-from_slice}
use Rattle.std.proofs.lemmas.Iterator.Search.{position_from_yields_List}
use Rattle.std.proofs.lemmas.List.Recursion.{is_position_or_len}
use Rattle.std.proofs.lemmas.Grind.{common_steps}
use Rattle.accounts.specs.Buckets.{bounds, first_above, bucket_index_of}
use Rattle.accounts.specs.Laws.Buckets.{bucket_within}
use Rattle.accounts.proofs.buckets.bucket_index.Goals as goal

-- a place among n, or n for none
place : (p n : ℕ) → p < n + 1 → unwrap_or (cond (nat_lt p n) (Some p) None) n ≡ p
place p n h = grind (arith, common_steps)

pub returns : goal.returns
unfolding bucket_index_of bounds of_int of_bits
returns c =
    let x = c.args.latency_ms in
    let found = position_from_yields_List (λ (b : Float). lt x b) _ _ c.position.result c.position.ensures.ran (YieldsList-from_slice bounds c.iter.ensures.rest) (λ y b q k. search (rules, tests)) in
    let same = is_position_or_len (first_above x) (λ (b : Float). lt x b) refl (λ b bs. ap (cond (lt x b) 0) (omega arith)) bounds in
    let at = rw (← same) at found in
    c.unwrap_or.ensures ∙ ap (λ (o : Option ℕ). unwrap_or o 11) at ∙ place (first_above x bounds) 11 (bucket_within x)
