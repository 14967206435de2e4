-- `positions::pos_list::put_chosen` meets its contract: what the whole stretch writes is what the rest of it writes.
-- Assumes nothing.
use mathlib.Core.Path.{◌≡◌}
use Prim.Native.Nat.{◌≤◌, ◌+◌, ◌-◌}
use lib.ListN.{length}
use lib.Seq.{sets}
use Rattle.positions.specs.Places.{kept_within}
use Rattle.positions.proofs.pos_list.put_chosen.Given as goal

abbrev pub invariant-loop-place : goal.invariant-loop-place
invariant-loop-place l =
    (l.written + (l.to - l.place) ≤ 732)
    × (l.count + length (kept_within l.bysetpos l.n l.from l.to) ≡ l.written + length (kept_within l.bysetpos l.n l.place l.to))
    × (sets l.initial.places l.count (kept_within l.bysetpos l.n l.from l.to) ≡ sets l.places l.written (kept_within l.bysetpos l.n l.place l.to))

abbrev pub decreases-loop-place : goal.decreases-loop-place
decreases-loop-place l = l.to - l.place
