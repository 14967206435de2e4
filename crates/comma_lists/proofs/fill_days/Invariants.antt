-- `comma_lists::fill_days` meets its contract: with the days still to be read the slots of both lists are those of the whole list.
-- Assumes nothing.
use Prim.Native.Nat.{◌-◌}
use mathlib.Core.List.{map}
use lib.ListN.{drop}
use Rattle.recur.specs.Grammar.{nth_of, weekday_of}
use Rattle.recur.specs.Reading.{days_at}
use Rattle.comma_lists.proofs.FillLaws.{Stored, Fills}
use Rattle.comma_lists.proofs.fill_days.Given as goal

abbrev pub invariant-loop-count : goal.invariant-loop-count
invariant-loop-count l =
    Fills days_at l.text l.at l.place l.count
    × Stored l.initial.ns l.ns l.count (map nth_of (days_at 748 l.at (drop l.at l.text)).value)
    (map nth_of (days_at (748 - l.count) l.place (drop l.place l.text)).value)
    × Stored l.initial.ws l.ws l.count (map weekday_of (days_at 748 l.at (drop l.at l.text)).value)
    (map weekday_of (days_at (748 - l.count) l.place (drop l.place l.text)).value)
