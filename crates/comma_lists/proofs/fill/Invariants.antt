-- `comma_lists::fill` meets its contract: with the entries still to be read the slots are those of the whole list.
-- Assumes nothing.
use Prim.Native.Nat.{◌-◌}
use lib.ListN.{drop}
use Rattle.comma_lists.specs.Lists.{list_of}
use Rattle.comma_lists.proofs.FillLaws.{Stored, Fills}
use Rattle.comma_lists.proofs.fill.Given as goal

abbrev pub invariant-loop-slot : goal.invariant-loop-slot
invariant-loop-slot g l =
    Fills (list_of (g.E.Entries.take l.entries)) l.text l.at l.place l.slot
    × Stored l.initial.list l.list l.slot (list_of (g.E.Entries.take l.entries) 748 l.at (drop l.at l.text)).value
    (list_of (g.E.Entries.take l.entries) (748 - l.slot) l.place (drop l.place l.text)).value
