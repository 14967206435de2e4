-- `basics::lists::is_empty` meets its contract: the set is empty where no flag was found, and none is left.
-- Assumes nothing.
use Rattle.std.proofs.Common.{rules}
use mathlib.Core.Path.{refl, sym, ◌∙◌}
use Rattle.rule.proofs.EntryLaws.{empty_next, empty_done}
use Rattle.basics.proofs.lists.is_empty.Goals as goal

pub loop-flag-init : goal.loop-flag-init
loop-flag-init c = (search rules, refl)

pub loop-flag-preserved : goal.loop-flag-preserved
loop-flag-preserved c =
    (search rules, c.loop-flag.invariant.1 ∙ empty_next c.loop-flag.found c.args.flags.now c.loop-flag.flag-index (search rules))

pub returns : goal.returns
returns c =
    sym (c.loop-flag.invariant.1 ∙ empty_done c.loop-flag.found c.args.flags.now c.loop-flag.flag-index (search rules))
