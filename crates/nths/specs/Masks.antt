-- The days of a year, and the seven days after it, by their places from 0 on; and the mask of the nth weekdays among them.
-- Assumes nothing.
use Rattle.std.specs.Prelude.{ℕ, ◌+◌, ◌-◌, ◌<◌, ◌≡◌, Bool, ◌&&◌, List, ltb, if◌then◌else◌}
use Rattle.calendar.specs.Calendar.{days_of, table_day, from_end, weekday}
use Rattle.rule.specs.Lists.{flags}
use Rattle.rule.specs.Days.{nth_passes}
use Rattle.weeks.specs.declared.yearinfo.Year.{Year}

-- The tables of a year reach so far.
abbrev pub in_tables : Bool → ℕ → Bool
in_tables long i = ltb i (days_of long + 7)

-- The day of the year at place i, counted from 1, and its year's length: past the year's end they are those of the next year.
unfoldable pub year_day_at : Bool → ℕ → ℕ
year_day_at long i = if ltb i (days_of long) then i + 1 else i + 1 - days_of long

unfoldable pub year_length_at : Bool → Bool → ℕ → ℕ
year_length_at long nextlong i = if ltb i (days_of long) then days_of long else days_of nextlong

-- BYDAY with n not 0, at place i: the nth such weekday of the year, where it counts in the year, else of the month.
unfoldable pub nth_at : Bool → Year → List Bool → ℕ → Bool
unfolding nth_passes table_day year_day_at year_length_at
nth_at inyear y s i =
    in_tables y.long i
    && (if inyear
    then nth_passes s (weekday (y.first + i)) (year_day_at y.long i) (year_length_at y.long y.nextlong i)
    else nth_passes s (weekday (y.first + i)) (table_day y.long i).day (table_day y.long i).length)

unfoldable pub nth_mask : Bool → Year → List Bool → List Bool
unfolding nth_at flags
nth_mask inyear y s = flags (nth_at inyear y s) 373 0

-- The day at place i in its year, or else in its month, counted from 1, and the same from the end.
abbrev pub day_at : Bool → Year → ℕ → ℕ
day_at inyear y i = if inyear then year_day_at y.long i else (table_day y.long i).day

abbrev pub left_at : Bool → Year → ℕ → ℕ
left_at inyear y i = if inyear then year_length_at y.long y.nextlong i + 1 - year_day_at y.long i else from_end (table_day y.long i)

-- A function tells both of each place in the tables.
abbrev pub TellsEnds : {F : Type 0} → (F → ℕ → Type 0) → (F → ℕ → ℕ × ℕ → Type 0) → F → Bool → Year → Type 0
TellsEnds pre post f inyear y = (i : ℕ) → i < days_of y.long + 7
    → pre f i × ((told : ℕ × ℕ) → post f i told → (told.0 ≡ day_at inyear y i) × (told.1 ≡ left_at inyear y i))
