-- The year that a day lies in.
-- Assumes nothing.
use Rattle.std.specs.Prelude.{ℕ, ◌+◌, Bool, ◌&&◌, leb, ltb, if◌then◌else◌}
use Rattle.calendar.specs.Calendar.{days_of, year_of}
use Rattle.weeks.specs.declared.yearinfo.Year.{Year}

-- a day lies in a year
unfoldable pub is_in_year : Year → ℕ → Bool
is_in_year y d = leb y.first d && ltb d (y.first + days_of y.long)

-- the year of a day; one far out of range counts as day 0
abbrev pub day_in : ℕ → ℕ
day_in d = if leb 4194304 d then 0 else d

unfoldable pub year_at : ℕ → ℕ
unfolding year_of
year_at d = year_of (day_in d)
