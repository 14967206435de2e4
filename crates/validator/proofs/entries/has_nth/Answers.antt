-- `validator::entries::has_nth` meets its contract.
-- Assumes nothing.
use Rattle.std.proofs.Common.{rules, ◌∙◌, tests}
use Rattle.std.proofs.lemmas.Iterator.{YieldsList-from_slice}
use Rattle.std.proofs.lemmas.Iterator.Search.{any_from_yields_List}
use Rattle.rule.specs.Refusals.{is_nth, some_nth}
use Rattle.validator.proofs.ListLaws.{some_is}
use Rattle.validator.proofs.entries.has_nth.Goals as goal

pub returns : goal.returns
unfolding some_nth
returns c =
    any_from_yields_List is_nth _ _ _ c.any.ensures.ran (YieldsList-from_slice c.args.ns.now cc) (λ x b q k. search (rules, tests))
    ∙ some_is is_nth c.args.ns.now
