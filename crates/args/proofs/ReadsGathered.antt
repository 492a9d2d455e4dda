-- What the arguments one by one say of what was gathered.
use Rattle.std.specs.Prelude.{◌≡◌, refl, Bool, true, false, cond, List, [], ◌∷◌, ◌++◌, ℕ, Result, Ok, Err}
use Rattle.std.specs.List.{list_any}
use Rattle.numbers.specs.declared.refusal.Refusal.{Refusal}
use Rattle.values.specs.Bytes.{same}
use Rattle.args.specs.declared.arguments.Args.{Args}
use Rattle.args.specs.declared.key_values.Values.{Values}
use Rattle.args.specs.Arguments.{Item, flag, pair, gathered, values_in, values_of, flag_in}
use Rattle.args.specs.Reads.{Read, reads_in, reads_of}
use Rattle.args.specs.Left.{args_left, values_left}

-- the arguments of a whole text
pub reads_from : (a : Args) (s : List ℕ) → a.rest.now ≡ s → args_left a ≡ reads_of (gathered s)
unfolding args_left
reads_from a s h = rw h

-- the refusal that is read, where there is one
abbrev pub outcome_in : List Read → Result (Unit {0}) Refusal
outcome_in [] = Ok tt
outcome_in (Ok i ∷ rs) = outcome_in rs
outcome_in (Err e ∷ rs) = Err e

pub outcome_is : (is : List Item) (r : Result (Unit {0}) Refusal) → outcome_in (reads_in is r) ≡ r
outcome_is [] (Ok tt) = refl
outcome_is [] (Err e) = refl
outcome_is (i ∷ is) r = outcome_is is r

-- whether the bare flag is read
abbrev pub is_flag : Read → Bool
is_flag (Ok flag) = true
is_flag (Ok (pair a v)) = false
is_flag (Err e) = false

pub flag_is : (is : List Item) (r : Result (Unit {0}) Refusal) → list_any is_flag (reads_in is r) ≡ flag_in is
flag_is [] (Ok _) = refl
flag_is [] (Err e) = refl
flag_is (flag ∷ is) r = refl
flag_is (pair a v ∷ is) r = flag_is is r

-- the values of a key that are read
abbrev pub values_read : List ℕ → List Read → List (List ℕ)
values_read k [] = []
values_read k (Ok flag ∷ rs) = values_read k rs
values_read k (Ok (pair a v) ∷ rs) = cond (same a k) (v ∷ values_read k rs) (values_read k rs)
values_read k (Err e ∷ rs) = values_read k rs

pub values_is : (k : List ℕ) (is : List Item) (r : Result (Unit {0}) Refusal) → values_read k (reads_in is r) ≡ values_in k is
values_is k [] (Ok _) = refl
values_is k [] (Err e) = refl
values_is k (flag ∷ is) r = values_is k is r
values_is k (pair a v ∷ is) r = rw (values_is k is r)

pub values_are : (v : Values) → values_read (v.prefix.now ++ v.name.now) (args_left v.args) ≡ values_left v
unfolding args_left values_left values_of
values_are v = values_is (v.prefix.now ++ v.name.now) (gathered v.args.rest.now).items (gathered v.args.rest.now).outcome
