-- `dates::utils::date_from_ordinal` meets its contract: the tables' row of the day's place in its year is the day's month, day and month length.
-- Assumes nothing.
use native.Mathlib.Omega.{arith}
use Rattle.calendar.proofs.Years.{year_of_is}
use Rattle.dates.proofs.TableDates.{TableDate, table_date}
use Rattle.dates.proofs.utils.date_from_ordinal.Goals as goal
use Rattle.dates.proofs.utils.date_from_ordinal.Goals.{After-month_day_from_end_at}

pub overflow_sub-place : goal.overflow_sub-place
overflow_sub-place c = rw (c.days_before_year.ensures, c.year_of_day-year.ensures) (year_of_is c.args.day).from

-- what is known behind the last call
read_off : (c : After-month_day_from_end_at)
    → TableDate c.args.day c.year_of_day-year.result
    c.days_before_year.result c.month_at.result c.month_day_at-month_day.result
    c.month_day_from_end_at.result
read_off c =
    let a = c in
    table_date a.args.day _ _ _ _ _ a.is_leap_year-long.result
    a.year_of_day-year.ensures a.is_leap_year-long.ensures a.days_before_year.ensures
    c.month_at.ensures c.month_day_at-month_day.ensures c.month_day_from_end_at.ensures

pub overflow_add-result : goal.overflow_add-result
overflow_add-result c = let h = read_off c in omega arith

pub overflow_sub-result : goal.overflow_sub-result
overflow_sub-result c = let h = read_off c in omega arith

pub returns : goal.returns
returns c = (read_off c).date
