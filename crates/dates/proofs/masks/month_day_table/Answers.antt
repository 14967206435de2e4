-- `dates::masks::month_day_table` meets its contract: its two tables are what the calendar says, by one computed test each.
-- Assumes nothing.
use mathlib.Core.Path.{refl, ◌∙◌}
use Rattle.calendar.specs.Calendar.{MonthDay, table_day}
use Rattle.dates.proofs.YearTables.{whole}
use Rattle.dates.proofs.masks.month_day_table.Goals as goal

pub returns : goal.returns
unfolding table_day
returns c = c.table_of.ensures ∙ whole (λ (p : MonthDay). p.day) refl _ _ refl refl c.args.long
