-- What a call does to a tree that it does not leave as it is.
use Rattle.std.specs.Prelude.{◌≡◌, true, ℕ, ◌<◌, ◌≤◌, Float}
use Rattle.std.proofs.Common.{lt-ltb, le-ltb, le-leb}
use Rattle.std.proofs.lemmas.Bool.{lt-leb}
use Rattle.numbers.specs.Limits.{max_capacity}
use Rattle.tournament.specs.Growth.{Tree, widened_of}
use Rattle.tournament.specs.Calls.{fits_of, placed_of, enter_of, freed_of, leave_of}

-- a slot can enter that has a leaf, or is the first that has none and is below the capacity
pub true_fits : (cap n slot : ℕ) → cap ≤ max_capacity → n ≤ cap → slot < cap → slot ≤ n → fits_of cap n slot ≡ true
unfolding fits_of
true_fits cap n slot a b c d = rw (le-leb cap max_capacity a, le-leb n cap b, lt-ltb slot cap c, le-leb slot n d)

-- a slot that can enter is placed in the tree that has a leaf for it
pub enter_is : (cap slot : ℕ) (due : Float) (seq : ℕ) (t : Tree) → fits_of cap t.leaves slot ≡ true
    → enter_of cap slot due seq t ≡ placed_of (widened_of cap t.leaves slot t) slot due seq
unfolding enter_of
enter_is cap slot due seq t h = rw h

-- a slot that has a leaf gets the key of a free one
pub leave_is : (slot : ℕ) (t : Tree) → t.leaves ≤ max_capacity → slot < t.leaves → leave_of slot t ≡ freed_of t slot
unfolding leave_of
leave_is slot t h k = rw (le-ltb max_capacity t.leaves h, lt-leb t.leaves slot k)
