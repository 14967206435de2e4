-- Worked cases of the walk, by computation: two days of 1970, each at nine and at ten.
-- Assumes nothing.
use Rattle.std.specs.Prelude.{Option, Some, None}
use Prim.Native.Nat.{ℕ, ◌+◌}
use mathlib.Core.Path.{◌≡◌, refl}
use mathlib.Core.List.{List, [], ◌∷◌}
use Rattle.machine.specs.declared.State.{State}
use Rattle.machine.specs.Run.{at_candidate, counted}
use Rattle.machine.specs.Compute.{walk}
use Rattle.rule.specs.declared.rrule.Frequency.{Frequency}
use Rattle.times.specs.TimeSets.{time_at}
use Rattle.walks.specs.declared.rrule_iter.Why.{Why}
use Rattle.walks.specs.declared.rrule_iter.Held.{Held}
use Rattle.walks.specs.declared.rrule_iter.Bounds.{Bounds}
use Rattle.walks.specs.declared.rrule_iter.Frame.{Frame}
use Rattle.walks.specs.Walks.{is_framed, given_by, walked_by, second_on, second_at, tabled, walk_from}
use Rattle.passing.specs.Passing.{is_ready}
use Rattle.crossing.specs.Crossing.{days_walk}

-- 1970-01-01 and 1970-01-03, at nine and at ten
frame : Frame
frame = record { freq = Frequency.Daily; begins = 0; counts = record { hours = 2; minutes = 1; seconds = 1 }; first = 719162; days = 2; times = 2 }

days : List ℕ
days = 0 ∷ 2 ∷ []

lists : List ℕ
lists = 9 ∷ 10 ∷ []

at : ℕ → ℕ → ℕ → Held
at place number handed = record { cursor = record { state = State.Running; k = 0; place = place; number = number }; moves = 0; handed = handed }

from : ℕ → Option ℕ → Option ℕ → Bounds
from t until count = record { start = 62135596800 + t; until = until; count = count }

-- all four, where there is room
through : days_walk frame (from 32400 None None) (at 0 0 0) days lists (7 ∷ 7 ∷ 7 ∷ 7 ∷ 7 ∷ [])
    ≡ walked_by (record { why = Why.Through; held = at 4 4 4 }) (32400 ∷ 36000 ∷ 205200 ∷ 208800 ∷ 7 ∷ [])
unfolding is_framed is_ready walk_from walk given_by tabled second_at second_on time_at at_candidate counted walked_by frame days lists at from
through = refl

-- the first is before the start, and the buffer is full with two
full : days_walk frame (from 32401 None None) (at 0 0 0) days lists (7 ∷ 7 ∷ [])
    ≡ walked_by (record { why = Why.Full; held = at 3 2 2 }) (36000 ∷ 205200 ∷ [])
unfolding is_framed is_ready walk_from walk given_by tabled second_at second_on time_at at_candidate counted walked_by frame days lists at from
full = refl

-- UNTIL's own instant is handed out, and the next ends the walk
until : days_walk frame (from 32400 (Some (62135596800 + 205200)) None) (at 1 1 0) days lists (7 ∷ 7 ∷ 7 ∷ [])
    ≡ walked_by (record { why = Why.Until; held = at 3 3 2 }) (36000 ∷ 205200 ∷ 7 ∷ [])
unfolding is_framed is_ready walk_from walk given_by tabled second_at second_on time_at at_candidate counted walked_by frame days lists at from
until = refl

-- COUNT counts what is handed out, and not what is before the start
count : days_walk frame (from 32401 None (Some 2)) (at 0 0 0) days lists (7 ∷ 7 ∷ 7 ∷ [])
    ≡ walked_by (record { why = Why.Count; held = at 3 2 2 }) (36000 ∷ 205200 ∷ 7 ∷ [])
unfolding is_framed is_ready walk_from walk given_by tabled second_at second_on time_at at_candidate counted walked_by frame days lists at from
count = refl

-- a start before 1970 is not walked from: nothing changes
unready : days_walk frame (record { start = 62135596799; until = None; count = None }) (at 0 0 0) days lists (7 ∷ [])
    ≡ walked_by (record { why = Why.Through; held = at 0 0 0 }) (7 ∷ [])
unfolding is_framed is_ready walked_by frame at
unready = refl
