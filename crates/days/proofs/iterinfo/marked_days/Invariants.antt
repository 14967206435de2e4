-- `days::iterinfo::marked_days` meets its contract.
-- Assumes nothing.
use Prim.Native.Nat.{◌-◌, ◌≤◌, ◌<◌}
use mathlib.Core.Path.{◌≡◌}
use mathlib.Core.Bool.{true, false}
use lib.ListN.{get_or}
use Rattle.plain.proofs.Filling.{Filling}
use Rattle.days.specs.DaySets.{marked_days}
use Rattle.days.proofs.iterinfo.marked_days.Given as goal

abbrev pub invariant-loop-place : goal.invariant-loop-place
invariant-loop-place l =
    Filling (λ i. get_or l.marks i false) l.end (marked_days l.marks l.from l.end) l.initial.days l.days l.marked l.place
    × (l.place ≤ l.end) × (l.place < l.end → get_or l.marks l.place false ≡ true)

abbrev pub decreases-loop-place : goal.decreases-loop-place
decreases-loop-place l = l.end - l.place
