-- `stretches::counter_date::days_of_month` meets its contract.
-- Assumes nothing.
use Rattle.rule.specs.declared.rrule.Frequency.{Frequency}
use native.Mathlib.Omega.{arith}
use Rattle.periods.specs.Counters.{limit_of}
use Rattle.stretches.specs.Stretches.{days_at}
use Rattle.stretches.proofs.Spanned.{days_below, days_past}
use Rattle.stretches.proofs.counter_date.days_of_month.Goals as goal

pub returns-then-number-ge120000 : goal.returns-then-number-ge120000
unfolding limit_of
returns-then-number-ge120000 c = days_past Frequency.Monthly c.args.number (omega arith)

pub first_of_month-requires-2 : goal.first_of_month-requires-2
first_of_month-requires-2 c = omega arith

pub returns : goal.returns
unfolding days_at limit_of
returns c =
    rw (c.first_of_month.ensures, c.first_of_month-2.ensures)
    (days_below Frequency.Monthly c.args.number (omega arith))
