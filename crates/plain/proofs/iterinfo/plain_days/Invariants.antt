-- `plain::iterinfo::plain_days` meets its contract.
-- Assumes nothing.
use Prim.Native.Nat.{◌+◌, min}
use mathlib.Core.Bool.{true}
use Rattle.calendar.specs.Calendar.{days_of}
use Rattle.plain.specs.DaySets.{all_days}
use Rattle.plain.proofs.Filling.{Filling}
use Rattle.plain.proofs.iterinfo.plain_days.Given as goal

abbrev pub invariant-loop-place : goal.invariant-loop-place
invariant-loop-place l =
    Filling (λ _. true) l.end (all_days l.from (min l.to (days_of l.long + 7))) l.initial.days l.days l.written l.place
