-- The first argument is read, or none is left.
use Rattle.std.proofs.Common.{◌≡◌, ◌∙◌, [], ◌∷◌, Ok, Err, rules}
use Rattle.args.specs.Arguments.{gathered}
use Rattle.args.specs.Left.{read_of, args_left}
use Rattle.args.proofs.Turns.{fewer, nothing_read, first_read}
use Rattle.args.proofs.arguments.ArgsIterator.next.Goals as goal
use Rattle.args.proofs.arguments.ArgsIterator.next.Goals.{In-Ok, In-Err}

pub returns-in_err-argument-clause-steps : goal.returns-in_err-argument-clause-steps
unfolding args_left
returns-in_err-argument-clause-steps c = let none = nothing_read c.args.self.now.rest.now c.in_err-argument.ensures in rw c.from_residual.ensures (none, none)

taken : (c : In-Ok) → args_left c.args.self.now ≡ read_of (Ok c.in-Ok.arg) ∷ args_left c.read.result.0
unfolding args_left
taken c = first_read c.args.self.now.rest.now _ _ c.in_ok-argument.ensures ∙ c.read.ensures ∙ rw c.in-Ok.is

refused : (c : In-Err) → args_left c.args.self.now ≡ Err c.in-Err.refusal ∷ []
unfolding args_left
refused c = first_read c.args.self.now.rest.now _ _ c.in_ok-argument.ensures ∙ c.read.ensures ∙ rw c.in-Err.is

pub returns-in-Ok-clause-steps : goal.returns-in-Ok-clause-steps
returns-in-Ok-clause-steps c = taken (goal.at.returns-in-Ok-clause-steps c).In-Ok

pub returns-in-Ok-clause-goes : goal.returns-in-Ok-clause-goes
returns-in-Ok-clause-goes c = let less = fewer _ _ _ (taken (goal.at.returns-in-Ok-clause-goes c).In-Ok) in search rules

pub returns-in-Err-clause-steps : goal.returns-in-Err-clause-steps
unfolding args_left gathered
returns-in-Err-clause-steps c = refused (goal.at.returns-in-Err-clause-steps c).In-Err

pub returns-in-Err-clause-goes : goal.returns-in-Err-clause-goes
unfolding args_left gathered
returns-in-Err-clause-goes c = record { on = λ _. (tt, tt, fewer _ _ _ (refused (goal.at.returns-in-Err-clause-goes c).In-Err)); keeps = tt; rests = λ _. tt }
