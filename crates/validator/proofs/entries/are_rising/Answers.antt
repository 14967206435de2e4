-- `validator::entries::are_rising` meets its contract.
-- Assumes nothing.
use Rattle.std.proofs.Common.{rules, ◌∙◌, tests}
use Rattle.std.proofs.lemmas.Iterator.{YieldsList-from_slice, YieldsList-from_zip}
use Rattle.std.proofs.lemmas.Iterator.Adapters.{YieldsList-from_skip}
use Rattle.std.proofs.lemmas.Iterator.Search.{all_from_yields_List}
use Rattle.validator.proofs.ListLaws.{below_next, pairs_by}
use Rattle.validator.proofs.entries.are_rising.Goals as goal

pub returns : goal.returns
returns c =
    all_from_yields_List below_next c.all.new.self _ _ c.all.ensures.ran
    (YieldsList-from_zip
    (YieldsList-from_zip (YieldsList-from_slice c.args.ns.now (cc)) (YieldsList-from_slice c.args.ws.now (cc)))
    (YieldsList-from_skip 1 (YieldsList-from_zip (YieldsList-from_slice c.args.ns.now (cc)) (YieldsList-from_slice c.args.ws.now (cc))) (cc)))
    (λ x b q k. search (rules, tests))
    ∙ pairs_by c.args.ns.now c.args.ws.now
