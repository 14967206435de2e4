-- `panel::unreadable_number` meets its contract.
-- Assumes nothing.
use mathlib.Core.Path.{sym, ◌∙◌}
use Rattle.panel.proofs.unreadable_number.Goals as goal

pub returns-then-is_record : goal.returns-then-is_record
returns-then-is_record c = rw (sym c.is_record.ensures ∙ c.if-is_record.true)

pub returns-else-is_record : goal.returns-else-is_record
returns-else-is_record c = rw (sym c.is_record.ensures ∙ c.if-is_record.false)
