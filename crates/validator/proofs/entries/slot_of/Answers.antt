-- `validator::entries::slot_of` meets its contract.
-- Assumes nothing.
use Rattle.std.proofs.Common.{◌∙◌, subst, ℤ}
use Rattle.rule.specs.Entries.{Moved}
use Rattle.rule.proofs.EntryLaws.{slot_moved}
use Rattle.validator.proofs.ListLaws.{same_value}
use Rattle.validator.proofs.entries.slot_of.Goals as goal

pub returns : goal.returns
returns c =
    c.slot_at.ensures
    ∙ slot_moved c.args.range c.args.value c.shifted.result (subst (λ (z : ℤ). Moved z c.shifted.result) (same_value _ c.ranges.value) c.shifted.ensures)
