-- A list of arguments that is refused is refused before the mode checks of the option text.
use Rattle.std.specs.Prelude.{refl, Bool, true, false, cond, Option, Some, None, List, [], ◌∷◌, ℕ, Err}
use Rattle.numbers.specs.Refusals.{EarlyIfRefused}
use Rattle.numbers.specs.declared.refusal.Refusal.TheVariants as refusal
use Rattle.values.specs.Bytes.{bytes, same, has, behind_first, equals}
use Rattle.args.specs.Arguments.{key_of, dashed, flag, pair, stop, also, gather, arguments_of, gathered}

gather_early : (waiting : Option (List ℕ)) (arguments : List (List ℕ)) → EarlyIfRefused (gather waiting arguments).outcome
gather_early None [] = tt
gather_early (Some k) [] = refl
gather_early (Some k) (v ∷ rest) = gather_early None rest
gather_early None (a ∷ rest) = go (dashed a) (has equals a) (same (key_of a) (bytes "verbose")) (gather_early None rest) (gather_early (Some (key_of a)) rest)
  where
    go : (d e f : Bool) → EarlyIfRefused (gather None rest).outcome → EarlyIfRefused (gather (Some (key_of a)) rest).outcome
        → EarlyIfRefused (cond d
        (cond e (also (pair (key_of a) (behind_first equals a)) (gather None rest)) (cond f (also flag (gather None rest)) (gather (Some (key_of a)) rest)))
        (stop (Err refusal.Argument))).outcome
    go false e f h k = refl
    go true true f h k = h
    go true false true h k = h
    go true false false h k = k

pub arguments_early : (s : List ℕ) → EarlyIfRefused (gathered s).outcome
unfolding gathered
arguments_early s = gather_early None (arguments_of s)
