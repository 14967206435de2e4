-- `clocks::iterinfo::collect` meets its contract: past i flags the list holds the values of those that were set.
-- Assumes nothing.
use Prim.Native.Nat.{◌≤◌}
use mathlib.Core.Path.{◌≡◌}
use lib.ListN.{length}
use Rattle.clocks.proofs.Rows.{Past}
use Rattle.clocks.proofs.iterinfo.collect.Given as goal

abbrev pub invariant-loop-i : goal.invariant-loop-i
invariant-loop-i l =
    (l.i ≤ l.size) × (l.count ≤ l.i) × (length l.list ≡ length l.initial.list) × Past l.initial.list l.from l.flags l.i l.list l.count
