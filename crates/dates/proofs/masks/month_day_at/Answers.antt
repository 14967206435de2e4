-- `dates::masks::month_day_at` meets its contract: its two tables are what the calendar says at each place, by one computed test each.
-- Assumes nothing.
use mathlib.Core.Path.{refl, ◌∙◌}
use Rattle.calendar.specs.Calendar.{MonthDay, table_day}
use Rattle.dates.proofs.YearTables.{reads}
use Rattle.dates.proofs.masks.month_day_at.Goals as goal

pub returns : goal.returns
unfolding table_day
returns c = c.number_at.ensures ∙ reads (λ (p : MonthDay). p.day) refl _ _ refl refl refl refl c.args.long c.args.place
