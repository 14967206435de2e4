-- Worked cases of the walk over places, by computation: two days of 1970, each at nine and at ten.
-- Assumes nothing.
use Rattle.std.specs.Prelude.{Option, None}
use Prim.Native.Nat.{ℕ, ◌+◌}
use mathlib.Core.Path.{◌≡◌, refl}
use mathlib.Core.List.{List, [], ◌∷◌}
use Rattle.machine.specs.declared.State.{State}
use Rattle.machine.specs.Run.{at_candidate, counted}
use Rattle.machine.specs.Compute.{walk}
use Rattle.rule.specs.declared.rrule.Frequency.{Frequency}
use Rattle.times.specs.TimeSets.{time_at}
use Rattle.walks.specs.declared.rrule_iter.Why.{Why}
use Rattle.walks.specs.declared.rrule_iter.Held.{Held}
use Rattle.walks.specs.declared.rrule_iter.Bounds.{Bounds}
use Rattle.walks.specs.declared.rrule_iter.Frame.{Frame}
use Rattle.walks.specs.Walks.{is_framed, given_by, walked_by, second_on, second_at, second_chosen, tabled, walk_from}
use Rattle.passing.specs.Passing.{is_ready}
use Rattle.chosen.specs.Chosen.{places_walk}

-- 1970-01-01 and 1970-01-03, at nine and at ten
frame : Frame
frame = record { freq = Frequency.Daily; begins = 0; counts = record { hours = 2; minutes = 1; seconds = 1 }; first = 719162; days = 2; times = 2 }

days : List ℕ
days = 0 ∷ 2 ∷ []

lists : List ℕ
lists = 9 ∷ 10 ∷ []

at : ℕ → ℕ → ℕ → Held
at place number handed = record { cursor = record { state = State.Running; k = 0; place = place; number = number }; moves = 0; handed = handed }

from : ℕ → Option ℕ → Option ℕ → Bounds
from t until count = record { start = 62135596800 + t; until = until; count = count }

-- places 1 and 3 are kept
kept : places_walk frame (from 0 None None) (at 0 0 0) 2 (1 ∷ 3 ∷ []) days lists (7 ∷ 7 ∷ [])
    ≡ walked_by (record { why = Why.Through; held = at 2 2 2 }) (36000 ∷ 208800 ∷ [])
unfolding is_framed is_ready walk_from walk given_by tabled second_chosen second_at second_on time_at at_candidate counted walked_by frame days lists at from
kept = refl

-- more places than there are, are not walked over: nothing changes
too_many : places_walk frame (from 0 None None) (at 0 0 0) 733 (1 ∷ 3 ∷ []) days lists (7 ∷ 7 ∷ [])
    ≡ walked_by (record { why = Why.Through; held = at 0 0 0 }) (7 ∷ 7 ∷ [])
unfolding walked_by at
too_many = refl
