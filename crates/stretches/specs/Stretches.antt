-- The days of a period, by its number.
-- Assumes nothing.
use Rattle.std.specs.Prelude.{ℕ, ◌+◌, ◌/◌, ◌%◌, min, ltb, if◌then◌else◌}
use Rattle.calendar.specs.Calendar.{new_year, first_of}
use Rattle.rule.specs.declared.rrule.Frequency.{Frequency}
use Rattle.rule.specs.Instants.{range_end}
use Rattle.periods.specs.Counters.{limit_of}
use Rattle.stretches.specs.declared.counter_date.Days.{Days}

-- the first day of the month with such a number, counted from the year 0 on
abbrev pub first_of_month : ℕ → ℕ
first_of_month n = first_of (n / 12) (n % 12 + 1)

-- The days of the period with this number. A week is cut at the end of 9999.
unfoldable pub days_at : Frequency → ℕ → Days
unfolding first_of
days_at Frequency.Yearly n = record { from = new_year n; to = new_year (n + 1) }
days_at Frequency.Monthly n = record { from = first_of_month n; to = first_of_month (n + 1) }
days_at Frequency.Weekly n = record { from = n; to = min (n + 7) range_end }
days_at Frequency.Daily n = record { from = n; to = n + 1 }
days_at Frequency.Hourly n = record { from = n; to = n + 1 }
days_at Frequency.Minutely n = record { from = n; to = n + 1 }
days_at Frequency.Secondly n = record { from = n; to = n + 1 }

-- the days of the period with this number, and none where it begins after 9999
unfoldable pub days_in : Frequency → ℕ → Days
unfolding days_at limit_of
days_in freq n = if ltb n (limit_of freq) then days_at freq n else record { from = 0; to = 0 }
