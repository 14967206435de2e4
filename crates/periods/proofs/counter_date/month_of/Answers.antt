-- `periods::counter_date::month_of` meets its contract: a date has a month from 1 on.
-- Assumes nothing.
use native.Mathlib.Omega.{arith}
use Rattle.calendar.proofs.Dates.{date_is}
use Rattle.periods.proofs.counter_date.month_of.Goals as goal

pub overflow_sub-result : goal.overflow_sub-result
overflow_sub-result c = rw c.date_from_ordinal-date.ensures (omega (arith, (date_is c.args.day).month_low))

pub returns : goal.returns
returns c = rw c.date_from_ordinal-date.ensures (omega (arith, (date_is c.args.day).month_low))
