-- `days::filters::has_day` meets its contract.
-- Assumes nothing.
use Rattle.std.proofs.Common.{rules}
use mathlib.Core.Path.{refl, sym, ◌∙◌}
use Rattle.rule.specs.Lists.{monthdays}
use Rattle.plain.proofs.SlotsPast.{none_outside}
use Rattle.days.proofs.FilterLaws.{day_slot}
use Rattle.days.proofs.filters.has_day.Goals as goal

pub returns-then-contains : goal.returns-then-contains
returns-then-contains c = let a = c.args in sym (day_slot a.bymonthday.now a.day (search rules) (search rules))

pub returns-else-contains : goal.returns-else-contains
returns-else-contains c = let a = c.args in c.if-contains.false ∙ sym (none_outside monthdays a.bymonthday.now a.day refl (λ l h. search rules))
