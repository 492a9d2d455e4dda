-- A list of which only the counted front is meant: one entry on, and the end.
use Rattle.std.specs.Prelude.{◌≡◌, ℕ, ◌+◌, ◌<◌, ◌≤◌, List, [], ◌∷◌, length, take, drop, slice_index_or}
use Rattle.std.proofs.Common.{add-one, arith, length-take, drop_of_length-le, drop-cons, get_or-take, length-take-le}

module _ {A : Type 0} where
  pub counted_step : (l : List A) (n i : ℕ) (d : A) → i < n → n ≤ length l → drop i (take n l) ≡ slice_index_or l i d ∷ drop (i + 1) (take n l)
  counted_step l n i d h k =
      let b : i < length (take n l) = omega (arith, length-take-le n l k) in
      rw (add-one, drop-cons (take n l) i d b, get_or-take n l i d h)

  pub counted_end : (l : List A) (n i : ℕ) → n ≤ i → drop i (take n l) ≡ []
  counted_end l n i h = drop_of_length-le (take n l) {i = i} (omega (arith, length-take n l))
