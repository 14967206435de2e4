-- `plain::iterinfo::days_by_month` meets its contract.
-- Assumes nothing.
use Prim.Native.Nat.{◌+◌, min}
use Rattle.calendar.specs.Calendar.{days_of}
use Rattle.plain.specs.DaySets.{month_at, month_days}
use Rattle.plain.proofs.Filling.{Filling}
use Rattle.plain.proofs.iterinfo.days_by_month.Given as goal

abbrev pub invariant-loop-place : goal.invariant-loop-place
invariant-loop-place l =
    Filling (month_at l.info.months l.rule.bymonth) l.stop (month_days l.info.months l.rule.bymonth l.from (min l.to (days_of l.info.year.long + 7))) l.initial.days l.days l.taken l.place
