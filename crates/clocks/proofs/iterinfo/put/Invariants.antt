-- `clocks::iterinfo::put` meets its contract: the row holds so much of the set as was passed.
-- Assumes nothing.
use Prim.Native.Nat.{◌≤◌}
use mathlib.Core.Path.{◌≡◌}
use lib.ListN.{length, take}
use Rattle.clocks.specs.Clocks.{written, or_all}
use Rattle.clocks.proofs.iterinfo.put.Given as goal

abbrev pub invariant-loop-i : goal.invariant-loop-i
invariant-loop-i l =
    (l.i ≤ length l.set) × (length l.flags ≡ length l.initial.flags) × (l.flags ≡ written l.initial.flags l.from (take l.i (or_all (length l.set) l.set)))
