-- `validator::entries::take` meets its contract.
-- Assumes nothing.
use Rattle.std.proofs.Common.{◌∙◌, sym, ap, ◌&&◌, Some}
use Rattle.validator.proofs.ListLaws.{take_so, take_not}
use Rattle.validator.proofs.entries.take.Goals as goal

pub returns-then-when-is_empty : goal.returns-then-when-is_empty
returns-then-when-is_empty g c =
    c.mark_slot.ensures ∙ sym (take_so c.args.when c.args.flags (Some c.args.slot) (ap (λ b. c.args.when && b) (sym c.is_empty.ensures) ∙ c.if-when-is_empty.true))

pub returns-else-when-is_empty : goal.returns-else-when-is_empty
returns-else-when-is_empty g c =
    sym (take_not c.args.when c.args.flags (Some c.args.slot) (ap (λ b. c.args.when && b) (sym c.is_empty.ensures) ∙ c.if-when-is_empty.false))
