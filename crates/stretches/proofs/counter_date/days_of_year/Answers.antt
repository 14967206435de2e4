-- `stretches::counter_date::days_of_year` meets its contract.
-- Assumes nothing.
use Rattle.rule.specs.declared.rrule.Frequency.{Frequency}
use native.Mathlib.Omega.{arith}
use Rattle.periods.specs.Counters.{limit_of}
use Rattle.stretches.specs.Stretches.{days_at}
use Rattle.stretches.proofs.Spanned.{days_below, days_past}
use Rattle.stretches.proofs.counter_date.days_of_year.Goals as goal

pub returns-then-number-ge10000 : goal.returns-then-number-ge10000
unfolding limit_of
returns-then-number-ge10000 c = days_past Frequency.Yearly c.args.number (omega arith)

pub returns : goal.returns
unfolding days_at limit_of
returns c =
    rw (c.days_before_year.ensures, c.days_before_year-2.ensures)
    (days_below Frequency.Yearly c.args.number (omega arith))
