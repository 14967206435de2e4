-- `stretches::counter_date::days_of_week` meets its contract.
-- Assumes nothing.
use Rattle.rule.specs.declared.rrule.Frequency.{Frequency}
use native.Mathlib.Omega.{arith}
use Rattle.periods.specs.Counters.{limit_of}
use Rattle.stretches.specs.Stretches.{days_at}
use Rattle.stretches.proofs.Spanned.{days_below, days_past}
use Rattle.stretches.proofs.counter_date.days_of_week.Goals as goal

pub returns-then-number-ge-RANGE_END : goal.returns-then-number-ge-RANGE_END
unfolding limit_of
returns-then-number-ge-RANGE_END c = days_past Frequency.Weekly c.args.number (omega arith)

pub returns : goal.returns
unfolding days_at limit_of
returns c =
    rw c.min.ensures (days_below Frequency.Weekly c.args.number (omega arith))
