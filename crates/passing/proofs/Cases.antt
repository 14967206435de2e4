-- Worked cases of days that are passed, by computation: two days of 1970, each at nine and at ten.
-- Assumes nothing.
use Rattle.std.specs.Prelude.{Option, None}
use Prim.Native.Nat.{ℕ, ◌+◌}
use mathlib.Core.Path.{◌≡◌, refl}
use mathlib.Core.Bool.{false}
use mathlib.Core.List.{List, [], ◌∷◌}
use Rattle.machine.specs.declared.State.{State}
use Rattle.rule.specs.declared.rrule.Frequency.{Frequency}
use Rattle.walks.specs.declared.rrule_iter.Held.{Held}
use Rattle.walks.specs.declared.rrule_iter.Bounds.{Bounds}
use Rattle.walks.specs.declared.rrule_iter.Frame.{Frame}
use Rattle.walks.specs.Walks.{is_framed}
use Rattle.passing.specs.Passing.{passable, passed_days}

-- 1970-01-01 and 1970-01-03, at nine and at ten
frame : Frame
frame = record { freq = Frequency.Daily; begins = 0; counts = record { hours = 2; minutes = 1; seconds = 1 }; first = 719162; days = 2; times = 2 }

days : List ℕ
days = 0 ∷ 2 ∷ []

at : ℕ → ℕ → ℕ → Held
at place number handed = record { cursor = record { state = State.Running; k = 0; place = place; number = number }; moves = 0; handed = handed }

from : ℕ → Option ℕ → Option ℕ → Bounds
from t until count = record { start = 62135596800 + t; until = until; count = count }

-- the first day is passed at one go where the start is on the next; and not where the start is its last second
passed : passed_days false frame (from 86400 None None) (at 0 0 0) days ≡ at 2 0 0
unfolding is_framed passed_days passable frame days at from
passed = refl

not_passed : passed_days false frame (from 86399 None None) (at 0 0 0) days ≡ at 0 0 0
unfolding is_framed passed_days passable frame days at from
not_passed = refl
