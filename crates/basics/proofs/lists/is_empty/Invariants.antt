-- `basics::lists::is_empty` meets its contract: the set is empty where no flag was found, and none is left.
-- Assumes nothing.
use mathlib.Core.Path.{◌≡◌}
use mathlib.Core.Bool.{not, ◌&&◌}
use Prim.Native.Nat.{◌≤◌, ◌-◌}
use lib.ListN.{length, drop}
use Rattle.rule.specs.Lists.{is_empty}
use Rattle.basics.proofs.lists.is_empty.Given as goal

abbrev pub invariant-loop-flag : goal.invariant-loop-flag
invariant-loop-flag l = (l.flag-index ≤ length l.flags) × (is_empty l.flags ≡ not l.found && is_empty (drop l.flag-index l.flags))
