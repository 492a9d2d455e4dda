-- What is read first of a text, and what is left behind it.
use Rattle.std.specs.Prelude.{◌≡◌, List, [], ◌∷◌, ℕ, ◌<◌, length, None, Some}
use Rattle.std.proofs.Common.{arith}
use Rattle.values.specs.Bytes.{split_once}
use Rattle.values.specs.Laws.Scan.{split_none, split_some}
use Rattle.args.specs.Arguments.{arguments_of, gather, gathered}
use Rattle.args.specs.Reads.{reads_of}
use Rattle.args.specs.Laws.Arguments.{no_argument, first_argument}

-- fewer are left behind the first one
pub fewer : {A : Type 0} (x : A) (xs ys : List A) → ys ≡ x ∷ xs → length xs < length ys
fewer x xs ys h = rw h (omega arith)

module _ (s : List ℕ) where
  -- nothing is read of a text without an argument
  pub nothing_read : None ≡ split_once 0 s → reads_of (gathered s) ≡ []
  unfolding gathered
  nothing_read h = rw (no_argument s (split_none 0 s h))

  -- the first argument is read, and then those behind it
  pub first_read : (a b : List ℕ) → Some (a, b) ≡ split_once 0 s → reads_of (gathered s) ≡ reads_of (gather None (a ∷ arguments_of b))
  unfolding gathered
  first_read a b h = let p = split_some 0 s (a, b) h in rw (first_argument s p.0, ← p.1, ← p.2)
