-- `stretches::counter_date::first_of_month` meets its contract.
-- Assumes nothing.
use mathlib.Core.Path.{◌∙◌}
use native.Mathlib.Omega.{arith}
use Rattle.calendar.specs.Calendar.{day_of_date}
use Rattle.stretches.proofs.counter_date.first_of_month.Goals as goal

pub returns : goal.returns
unfolding day_of_date
returns c = c.day_of_date.ensures ∙ omega arith
