-- `calendar::utils::year_of_day` meets its contract.
-- Assumes nothing.
use mathlib.Core.Path.{sym}
use native.Mathlib.Omega.{arith}
use Rattle.calendar.proofs.Years.{year_above, year_at_lem}
use Rattle.calendar.proofs.utils.year_of_day.Goals as goal

pub returns-then-days_before_year-day : goal.returns-then-days_before_year-day
returns-then-days_before_year-day c = sym (year_above c.args.day _ (omega arith) (omega arith))

pub returns-else-days_before_year-day : goal.returns-else-days_before_year-day
returns-else-days_before_year-day c = sym (year_at_lem c.args.day _ (omega arith) (omega arith))
