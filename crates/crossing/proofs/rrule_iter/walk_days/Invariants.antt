-- `crossing::rrule_iter::walk_days` meets its contract. Each loop's invariant: what is left of the walk gives what the whole gives.
-- Assumes nothing.
use Prim.Native.Nat.{ℕ, ◌+◌, ◌*◌, ◌≤◌, ◌<◌}
use mathlib.Core.Path.{◌≡◌}
use mathlib.Core.List.{List}
use lib.ListN.{length}
use Rattle.walks.specs.declared.rrule_iter.Why.{Why}
use Rattle.walks.specs.declared.rrule_iter.Held.{Held}
use Rattle.walks.specs.Walks.{second_at, walk_from}
use Rattle.crossing.proofs.rrule_iter.walk_days.Given as goal

-- as many numbered as handed out since, room for what is handed out, and the cursor's state as it was
abbrev Counted : Held → Held → List ℕ → List ℕ → Type 0
Counted h₀ h buffer₀ buffer =
    (h₀.handed ≤ h.handed) × (h.cursor.number + h₀.handed ≡ h₀.cursor.number + h.handed) × (h.handed ≤ length buffer)
    × (length buffer ≡ length buffer₀) × (h.cursor.state ≡ h₀.cursor.state)

abbrev pub invariant-loop-time : goal.invariant-loop-time
invariant-loop-time l =
    (l.why ≡ Why.Through) × (l.time ≤ l.frame.times) × (l.at.cursor.place + l.initial.time ≡ l.initial.at.cursor.place + l.time) × Counted l.initial.at l.at l.initial.buffer l.buffer
    × (walk_from l.bounds (second_at l.frame l.candidates.days.now l.candidates.lists.now) (l.frame.days * l.frame.times) l.initial.at l.initial.buffer
    ≡ walk_from l.bounds (second_at l.frame l.candidates.days.now l.candidates.lists.now) (l.frame.days * l.frame.times) l.at l.buffer)

abbrev pub invariant-days : goal.invariant-days
invariant-days l =
    (l.why ≡ Why.Through) × (l.from < l.frame.times) × (l.at.cursor.place ≡ l.day * l.frame.times + l.from) × Counted l.initial.at l.at l.initial.buffer l.buffer
    × (walk_from l.bounds (second_at l.frame l.candidates.days.now l.candidates.lists.now) (l.frame.days * l.frame.times) l.initial.at l.initial.buffer
    ≡ walk_from l.bounds (second_at l.frame l.candidates.days.now l.candidates.lists.now) (l.frame.days * l.frame.times) l.at l.buffer)
