-- `days::iterinfo::weekday_days` meets its contract. The loop's invariant: what is filled in so far, and the weekday that is carried.
-- Assumes nothing.
use Prim.Native.Nat.{◌+◌}
use mathlib.Core.Path.{◌≡◌}
use Rattle.calendar.specs.Calendar.{weekday}
use Rattle.plain.proofs.Filling.{Filling}
use Rattle.days.specs.Filters.{weekday_at}
use Rattle.days.specs.DaySets.{weekday_days}
use Rattle.days.proofs.iterinfo.weekday_days.Given as goal

abbrev pub invariant-loop-place : goal.invariant-loop-place
invariant-loop-place l =
    Filling (weekday_at l.nth l.info.year.first l.rule.byday l.info.nths) l.end (weekday_days l.nth l.info.year.first l.rule.byday l.info.nths l.from l.end) l.initial.days l.days l.passed l.place × (l.weekday ≡ weekday (l.info.year.first + l.place))
