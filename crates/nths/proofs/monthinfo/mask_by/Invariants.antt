-- `nths::monthinfo::mask_by` meets its contract.
-- Assumes nothing.
use Prim.Native.Nat.{◌+◌, ◌≤◌}
use Rattle.calendar.specs.Calendar.{days_of}
use Rattle.nths.specs.Masks.{nth_at}
use Rattle.nths.proofs.MarkLaws.{Through}
use Rattle.nths.proofs.monthinfo.mask_by.Given as goal

abbrev pub invariant-loop-weekday : goal.invariant-loop-weekday
invariant-loop-weekday g l =
    let year = l.fn.year in
    (l.weekday ≤ 7) × Through (nth_at l.inyear year l.byday) year.first (days_of year.long + 7) l.weekday l.mask
