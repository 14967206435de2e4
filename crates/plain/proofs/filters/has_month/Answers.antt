-- `plain::filters::has_month` meets its contract.
-- Assumes nothing.
use Rattle.std.proofs.Common.{rules}
use mathlib.Core.Path.{refl, sym, ◌∙◌}
use Rattle.rule.specs.Lists.{months}
use Rattle.nths.proofs.Slots.{month_slot}
use Rattle.plain.proofs.SlotsPast.{none_outside}
use Rattle.plain.proofs.filters.has_month.Goals as goal

pub returns-then-contains : goal.returns-then-contains
returns-then-contains c = let a = c.args in sym (month_slot a.bymonth.now a.month (search rules) (search rules))

pub returns-else-contains : goal.returns-else-contains
returns-else-contains c = let a = c.args in c.if-contains.false ∙ sym (none_outside months a.bymonth.now a.month refl (λ l h. search rules))
