-- `nths::monthinfo::mark_days` meets its contract.
-- Assumes nothing.
use Prim.Native.Nat.{◌+◌, ◌-◌, ◌%◌, ◌<◌}
use mathlib.Core.Path.{◌≡◌}
use Rattle.nths.specs.Masks.{nth_at}
use Rattle.nths.specs.Marks.{Marked}
use Rattle.nths.proofs.monthinfo.mark_days.Given as goal

abbrev pub invariant-loop-place : goal.invariant-loop-place
invariant-loop-place g l =
    let year = l.fn.year in
    (l.place < l.place-end + 7) × ((year.first + l.place) % 7 ≡ l.weekday)
    × Marked (nth_at l.inyear year l.byday) year.first l.weekday l.place l.fn.mask l.mask

abbrev pub decreases-loop-place : goal.decreases-loop-place
decreases-loop-place g l = l.place-end - l.place
