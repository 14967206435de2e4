-- `passing::rrule_iter::pass_days` meets its contract. The loop's invariant: the days that are left lead where all of them lead.
-- Assumes nothing.
use Prim.Native.Nat.{◌*◌}
use mathlib.Core.Path.{◌≡◌}
use Rattle.passing.specs.Passing.{held_at}
use Rattle.passing.proofs.PassLaws.{Leads}
use Rattle.passing.proofs.rrule_iter.pass_days.Given as goal

abbrev pub invariant-loop-day : goal.invariant-loop-day
invariant-loop-day l =
    (l.at ≡ held_at l.initial.at l.at.cursor.place) × (l.at.cursor.place ≡ l.day * l.frame.times)
    × (Leads l.bounds l.frame l.days l.frame.days l.initial.day l.initial.at.cursor.place ≡ Leads l.bounds l.frame l.days l.frame.days l.day l.at.cursor.place)
