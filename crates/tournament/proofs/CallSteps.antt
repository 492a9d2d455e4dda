-- What a slot that can enter has passed.
use Rattle.std.proofs.Common.{◌≡◌, true, ℕ, ◌<◌, ◌≤◌}
use borrow.Author.Tests.{ltb-true, leb-true}
use Rattle.numbers.specs.Limits.{max_capacity}
use Rattle.numbers.specs.Laws.Both.{both_true}
use Rattle.tournament.specs.Calls.{fits_of}

pub record Fits (cap n slot : ℕ) : Type 0 where
  pub cap_within : cap ≤ max_capacity
  pub leaves_within : n ≤ cap
  pub slot_below : slot < cap
  pub slot_next : slot ≤ n

pub fits_is : (cap n slot : ℕ) → fits_of cap n slot ≡ true → Fits cap n slot
unfolding fits_of
fits_is cap n slot h =
    let d = both_true _ _ h in
    let c = both_true _ _ d.0 in
    let b = both_true _ _ c.0 in
    record { cap_within = leb-true _ _ b.0; leaves_within = leb-true _ _ b.1; slot_below = ltb-true _ _ c.1; slot_next = leb-true _ _ d.1 }
