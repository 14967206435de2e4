-- `units::year::year_at` meets its contract.
-- Assumes nothing.
use mathlib.Core.Path.{ap, ◌∙◌}
use Rattle.calendar.specs.Calendar.{year_of}
use Rattle.units.specs.Years.{year_at}
use Rattle.units.proofs.year.year_at.Goals as goal

pub returns : goal.returns
unfolding year_at
returns c = c.year_of_day.ensures ∙ ap year_of c.day_in.ensures
