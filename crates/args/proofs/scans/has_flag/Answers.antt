-- The flag stands in the text where it is among the arguments that are read.
use Rattle.std.proofs.Common.{rules, ◌∙◌}
use Rattle.std.proofs.lemmas.Iterator.Consumers.{YieldsList-from_first}
use Rattle.std.proofs.lemmas.Iterator.Search.{any_from_yields_List}
use borrow.Author.Tests.{tests}
use Rattle.args.specs.Arguments.{gathered}
use Rattle.args.specs.Left.{read_of, args_left}
use Rattle.args.specs.Reads.{reads_of}
use Rattle.args.proofs.ReadsGathered.{is_flag, flag_is, reads_from}
use Rattle.args.proofs.scans.has_flag.Goals as goal

pub returns : goal.returns
returns c =
    let all = gathered c.args.text.now in
    let yields = YieldsList-from_first read_of args_left (reads_of all) (reads_from c.new.result c.args.text.now c.new.ensures) in
    any_from_yields_List is_flag _ _ c.any.result c.any.ensures.ran yields (λ x b q k. search (rules, tests)) ∙ flag_is all.items all.outcome
