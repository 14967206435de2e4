-- The walk over a period's candidates, as code keeps it: in numbers.
-- Assumes nothing.
use Rattle.std.specs.Prelude.{ℕ, zero, suc, ◌+◌, ◌-◌, ◌*◌, ◌/◌, ◌%◌, ◌≤◌, ◌<◌, Bool, true, ◌&&◌, List, [], ◌∷◌, get_or, leb, ltb, if◌then◌else◌, Option, Some, None}
use Rattle.machine.specs.declared.Cause.{Cause}
use Rattle.machine.specs.declared.State.{State}
use Rattle.machine.specs.declared.Stop.{Stop}
use Rattle.machine.specs.declared.Cursor.{Cursor}
use Rattle.machine.specs.Given.{Bound, Bound.absent, Bound.present, Move.NoTick, Given}
use Rattle.machine.specs.Run.{Now}
use Rattle.machine.specs.Compute as compute
use Rattle.rule.specs.Instants.{instant}
use Rattle.rule.specs.Run.{count_of}
use Rattle.times.specs.TimeSets.{time_at}
use Rattle.walks.specs.declared.rrule_iter.Why.{Why}
use Rattle.walks.specs.declared.rrule_iter.Held.{Held}
use Rattle.walks.specs.declared.rrule_iter.Walked.{Walked}
use Rattle.walks.specs.declared.rrule_iter.Bounds.{Bounds}
use Rattle.walks.specs.declared.rrule_iter.Frame.{Frame}

-- UNTIL as a second
abbrev pub bound_of : Option ℕ → Bound
bound_of None = absent
bound_of (Some s) = present s

-- what a walk needs of what a run is given: the bounds, and what is written
unfoldable pub given_by : Bounds → Given ℕ
given_by b = record {
  kept = λ k. [];
  in_range = λ k. true;
  begins = λ k. 0;
  ends = λ k. 0;
  move = λ k. NoTick;
  start = b.start;
  until = bound_of b.until;
  count = count_of b.count;
  interval = 1;
  shown = instant;
}

-- a cursor in another state
abbrev pub in_state : State → Cursor → Cursor
in_state state c = record { state = state; k = c.k; place = c.place; number = c.number }

-- what a call holds, with its cursor's state and the buffer
abbrev pub now_of : State → Held → List ℕ → Now ℕ
now_of state h buffer = record {
  cursor = in_state state h.cursor;
  made = h.moves;
  handed = h.handed;
  buffer = buffer;
}

-- a walk's outcome: it stops the run, or comes through
unfoldable pub walked_by : Walked → List ℕ → compute.Walked ℕ
walked_by w buffer = elim w.why [
  | Why.Full ↦ compute.stopped (compute.outcome Stop.More (now_of State.Running w.held buffer))
  | Why.Until ↦ compute.stopped (compute.outcome Stop.Ended (now_of (State.Ended Cause.Until) w.held buffer))
  | Why.Count ↦ compute.stopped (compute.outcome Stop.Ended (now_of (State.Ended Cause.Count) w.held buffer))
  | Why.Through ↦ compute.through (now_of State.Running w.held buffer)
]

-- every entry of a row is a byte
abbrev pub Bytes : List ℕ → Type 0
Bytes row = (i : ℕ) → get_or row i 0 < 256

-- a period's days and times keep to what a year and a day have, and its year begins by the last day of 9999
pub record Framed (f : Frame) : Type 0 where
  pub days : f.days ≤ 373
  pub times : f.times ≤ 86400
  pub first : f.first ≤ 3652059

-- The same as a test, which is wider, and cheap: up to the next powers of two no sum wraps either.
unfoldable pub is_framed : Frame → Bool
is_framed f = leb f.days 373 && (ltb f.times 131072 && ltb f.first 4194304)

-- the same frame in the year that begins on another day
abbrev pub in_year : Frame → (first : ℕ) → Frame
in_year f first = record { freq = f.freq; begins = f.begins; counts = f.counts; first = first; days = f.days; times = f.times }

-- time number t of day number d, as a second
unfoldable pub second_on : Frame → (days lists : List ℕ) → (d t : ℕ) → ℕ
second_on f days lists d t = (f.first + get_or days d 0) * 86400 + time_at f.freq f.begins f.counts lists t

-- candidate number j: on day j / t at time j % t, where a day has t times
unfoldable pub second_at : Frame → (days lists : List ℕ) → ℕ → ℕ
unfolding second_on
second_at f days lists j = second_on f days lists (j / f.times) (j % f.times)

-- the same of any frame: 0 where a sum could wrap
unfoldable pub candidate_at : Frame → (days lists : List ℕ) → ℕ → ℕ
unfolding is_framed second_at
candidate_at f days lists j = if is_framed f then second_at f days lists j else 0

-- kept number i, where positions choose: the candidate at its place
unfoldable pub second_chosen : Frame → (days lists places : List ℕ) → ℕ → ℕ
unfolding second_at
second_chosen f days lists places i = second_at f days lists (get_or places i 0)

-- f i, f (i + 1), .., n of them
unfoldable pub tabled : (ℕ → ℕ) → ℕ → ℕ → List ℕ
tabled f i zero = []
tabled f i (suc n) = f i ∷ tabled f (i + 1) n

-- the walk from the place on, over n candidates of which number j is f j
unfoldable pub walk_from : Bounds → (ℕ → ℕ) → ℕ → Held → List ℕ → compute.Walked ℕ
walk_from b f n h buffer = compute.walk (given_by b) (tabled f h.cursor.place (n - h.cursor.place)) (now_of State.Running h buffer)

-- every time of a period is within its day
abbrev pub Timely : Frame → List ℕ → Type 0
Timely f lists = (t : ℕ) → t < f.times → time_at f.freq f.begins f.counts lists t < 86400
