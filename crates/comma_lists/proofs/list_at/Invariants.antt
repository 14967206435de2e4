-- `comma_lists::list_at` meets its contract: the list stops where what is still to be read of it stops.
-- Assumes nothing.
use Prim.Native.Nat.{◌-◌}
use Rattle.comma_lists.specs.Lists.{list_of}
use Rattle.comma_lists.proofs.StopLaws.{Stops}
use Rattle.comma_lists.proofs.list_at.Given as goal

abbrev pub invariant-loop-read : goal.invariant-loop-read
invariant-loop-read g l = Stops (list_of (g.E.Entries.take l.entries)) l.text l.at l.place (748 - l._read)
