-- `nths::monthinfo::has_entry` meets its contract.
-- Assumes nothing.
use Prim.Native.Nat.{◌≤◌}
use mathlib.Core.Path.{◌≡◌}
use mathlib.Core.Bool.{false}
use Rattle.nths.specs.Marks.{NoEntry}
use Rattle.nths.proofs.monthinfo.has_entry.Given as goal

abbrev pub invariant-loop-row : goal.invariant-loop-row
invariant-loop-row l = (l.from ≤ l.row) × (l.row ≤ l.to) × (l.some ≡ false → NoEntry l.byday l.weekday l.from l.row)
