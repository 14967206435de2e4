-- `validator::entries::is_rising` meets its contract.
-- Assumes nothing.
use Rattle.std.proofs.Common.{rules, tests}
use Rattle.std.proofs.lemmas.List.Sorted.{answers_always}
use Rattle.std.specs.Int.Signed.{lt_z}
use Rattle.validator.proofs.ListLaws.{rises_by}
use Rattle.validator.proofs.entries.is_rising.Goals as goal

pub returns : goal.returns
returns c = rises_by c.args.list.now _ (c.is_sorted_by.ensures.cases lt_z (answers_always _ _ _ (λ f a r q k. search (rules, tests))))
