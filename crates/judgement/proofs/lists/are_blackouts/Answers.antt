-- The windows are those of the front that is counted.
use borrow.Author.Rules.{rules}
use borrow.Author.Tests.{tests, le-leb}
use Rattle.std.proofs.Common.{◌∙◌, take}
use Rattle.std.proofs.lemmas.Iterator.{YieldsList-from_slice}
use Rattle.std.proofs.lemmas.Iterator.Search.{all_from_yields_List}
use Rattle.settings.specs.Judgement.{is_window}
use Rattle.judgement.proofs.lists.are_blackouts.Goals as goal

pub returns-then-count-le-MAX_ENTRIES : goal.returns-then-count-le-MAX_ENTRIES
returns-then-count-le-MAX_ENTRIES c =
    all_from_yields_List is_window _ _ _ c.all.ensures.ran (YieldsList-from_slice (take c.args.cfg.now.blackout_count c.args.cfg.now.blackouts) cc) (λ x b q k. search (rules, tests))
    ∙ rw (le-leb _ _ c.if-count-le-MAX_ENTRIES.true)
