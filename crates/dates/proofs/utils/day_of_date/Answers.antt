-- `dates::utils::day_of_date` meets its contract.
-- Assumes nothing.
use native.Mathlib.Omega.{arith}
use Rattle.calendar.specs.Calendar.{day_of_date, first_of}
use Rattle.calendar.proofs.Years.{new_year_at_most}
use Rattle.dates.proofs.utils.day_of_date.Goals as goal

pub overflow_add-result : goal.overflow_add-result
overflow_add-result c = omega (arith, new_year_at_most c.args.year)

pub overflow_add-result-2 : goal.overflow_add-result-2
overflow_add-result-2 c = omega (arith, new_year_at_most c.args.year)

pub returns : goal.returns
unfolding day_of_date first_of
returns c =
    let m = rw c.is_leap_year.ensures at c.days_before_month-before.ensures in
    rw (c.days_before_year.ensures, m) (omega arith)
