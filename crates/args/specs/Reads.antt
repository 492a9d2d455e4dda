-- The arguments one by one, as they are read.
use Rattle.std.specs.Prelude.{List, [], ◌∷◌, Result, Ok, Err}
use Rattle.numbers.specs.declared.refusal.Refusal.{Refusal}
use Rattle.args.specs.Arguments.{Item, Gathered}

-- what is read at once: an argument or a refusal
abbrev pub Read : Type 0
Read = Result Item Refusal

-- the arguments, and behind them the refusal that ended them, where there was one
abbrev pub reads_in : List Item → Result (Unit {0}) Refusal → List Read
reads_in [] (Ok _) = []
reads_in [] (Err e) = Err e ∷ []
reads_in (i ∷ is) r = Ok i ∷ reads_in is r

abbrev pub reads_of : Gathered → List Read
reads_of g = reads_in g.items g.outcome
