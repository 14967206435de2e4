-- `chosen::rrule_iter::walk_places` meets its contract. The loop's invariant: what is left of the walk gives what the whole gives.
-- Assumes nothing.
use Prim.Native.Nat.{◌+◌, ◌≤◌}
use mathlib.Core.Path.{◌≡◌}
use lib.ListN.{length}
use Rattle.walks.specs.declared.rrule_iter.Why.{Why}
use Rattle.walks.specs.Walks.{second_chosen, walk_from}
use Rattle.chosen.proofs.rrule_iter.walk_places.Given as goal

abbrev pub invariant-loop-i : goal.invariant-loop-i
invariant-loop-i l =
    (l.why ≡ Why.Through) × (l.at.cursor.place ≡ l.i) × (l.initial.at.handed ≤ l.at.handed) × (l.at.cursor.number + l.initial.at.handed ≡ l.initial.at.cursor.number + l.at.handed)
    × (l.at.handed ≤ length l.buffer) × (length l.buffer ≡ length l.initial.buffer)
    × (walk_from l.bounds (second_chosen l.candidates.frame l.candidates.days.now l.candidates.lists.now l.places) l.kept l.initial.at l.initial.buffer ≡ walk_from l.bounds (second_chosen l.candidates.frame l.candidates.days.now l.candidates.lists.now l.places) l.kept l.at l.buffer)
    × (l.at.cursor.state ≡ l.initial.at.cursor.state)
