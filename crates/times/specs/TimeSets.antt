-- The times of a period by number. Hours, minutes and seconds stand in rows of 144 places: hour h at h, minute m at 24 + m, second s at 84 + s.
-- Assumes nothing.
use Rattle.std.specs.Prelude.{ℕ, ◌+◌, ◌*◌, ◌/◌, ◌%◌, Bool, false, ◌&&◌, List, ltb, get_or, if◌then◌else◌}
use Rattle.rule.specs.declared.rrule.Frequency.{Frequency}
use Rattle.rule.specs.Filling.{is_below}
use Rattle.times.specs.declared.iterinfo.Counts.{Counts}

-- the flag of a value below size, in a row from a place on; no other value has one
abbrev pub flag_in : List Bool → ℕ → ℕ → ℕ → Bool
flag_in flags from size v = ltb v size && get_or flags (from + v) false

-- how many there are to choose from: all that pass, or the one that is fixed, if that passes
abbrev pub count_of : Bool → ℕ → Bool → ℕ
count_of coarser count passes = if coarser then count else if passes then 1 else 0

-- The hours, minutes and seconds that a period has to choose from, which begins at this second of its day: all that pass, where its

-- frequency is coarser.
unfoldable pub open_of : Frequency → ℕ → List Bool → Counts → Counts
open_of freq begins flags counts = record {
  hours = count_of (is_below freq Frequency.Hourly) counts.hours (flag_in flags 0 24 (begins / 3600));
  minutes = count_of (is_below freq Frequency.Minutely) counts.minutes (flag_in flags 24 60 (begins / 60 % 60));
  seconds = count_of (is_below freq Frequency.Secondly) counts.seconds (flag_in flags 84 60 (begins % 60));
}

-- how many times a period has
abbrev pub times_len : Counts → ℕ
times_len counts = counts.hours * (counts.minutes * counts.seconds)

-- number j of a list of at most size values, in a row from a place on; or the value that is fixed
abbrev pub value_at : Bool → List ℕ → ℕ → ℕ → ℕ → ℕ → ℕ
value_at coarser lists from size j fixed = if coarser then (if ltb j size then get_or lists (from + j) 0 else 0) else fixed

-- Time number t of a period, as a second of the day: seconds go round first, then minutes, then hours.
unfoldable pub time_at : Frequency → ℕ → Counts → List ℕ → ℕ → ℕ
time_at freq begins counts lists t =
    value_at (is_below freq Frequency.Hourly) lists 0 24 (t / counts.seconds / counts.minutes) (begins / 3600) * 3600
    + (value_at (is_below freq Frequency.Minutely) lists 24 60 (t / counts.seconds % counts.minutes) (begins / 60 % 60) * 60
    + value_at (is_below freq Frequency.Secondly) lists 84 60 (t % counts.seconds) (begins % 60))
