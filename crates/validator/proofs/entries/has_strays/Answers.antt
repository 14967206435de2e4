-- `validator::entries::has_strays` meets its contract.
-- Assumes nothing.
use Rattle.std.proofs.Common.{rules, ◌∙◌, tests}
use Rattle.std.proofs.lemmas.Iterator.{YieldsList-from_slice}
use Rattle.std.proofs.lemmas.Iterator.Search.{any_from_yields_List}
use Rattle.rule.specs.Refusals.{stray_in, strays}
use Rattle.validator.proofs.ListLaws.{some_is}
use Rattle.validator.proofs.entries.has_strays.Goals as goal

pub returns : goal.returns
unfolding strays
returns c =
    any_from_yields_List (stray_in c.args.range) _ _ _ c.any.ensures.ran (YieldsList-from_slice c.args.list.now cc) (λ x b q k. search (rules, tests))
    ∙ some_is (stray_in c.args.range) c.args.list.now
