-- What is left of a text, as its arguments and as the values of a key.
use Rattle.std.specs.Prelude.{List, [], ◌∷◌, ◌++◌, ℕ, Result, Ok, Err}
use Rattle.numbers.specs.declared.refusal.Refusal.{Refusal}
use Rattle.args.specs.declared.arguments.Arg.{Arg}
use Rattle.args.specs.declared.arguments.Arg.TheVariants.{Flag, Pair}
use Rattle.args.specs.declared.arguments.Args.{Args}
use Rattle.args.specs.declared.key_values.Values.{Values}
use Rattle.args.specs.Arguments.{Item, flag, pair, gathered, values_of}
use Rattle.args.specs.Reads.{Read, reads_of}

-- an argument as what its bytes are
abbrev pub item_of : Arg → Item
item_of Flag = flag
item_of (Pair k v) = pair k.now v.now

abbrev pub read_of : Result Arg Refusal → Read
read_of (Ok a) = Ok (item_of a)
read_of (Err e) = Err e

-- the arguments that are left
unfoldable pub args_left : Args → List Read
args_left a = reads_of (gathered a.rest.now)

-- what is read first, and the arguments that are left behind it; none behind a refusal
abbrev pub then_left : Read → Args → List Read
then_left (Ok i) a = Ok i ∷ args_left a
then_left (Err e) a = Err e ∷ []

-- the values that are left
unfoldable pub values_left : Values → List (List ℕ)
values_left v = values_of (v.prefix.now ++ v.name.now) v.args.rest.now
