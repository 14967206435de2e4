-- Periods: where period k begins, and the first second after it.
-- Assumes nothing.
use Rattle.std.specs.Prelude.{ℕ, ◌+◌, ◌-◌, ◌*◌, ◌/◌, ◌%◌, min, Bool, ltb}
use Rattle.rule.specs.declared.rrule.Frequency.{Frequency}
use Rattle.rule.specs.declared.rrule.Rule.{Rule}
use Rattle.calendar.specs.declared.utils.Date.{Date}
use Rattle.calendar.specs.Calendar.{new_year, first_of, year_of, date_of}
use Rattle.rule.specs.Instants.{second, range_end, day_of}
use Rattle.rule.specs.Days.{week_of}

-- in seconds
pub record Period : Type 0 where
  pub begins : ℕ
  pub ends : ℕ

abbrev pub of_days : ℕ → ℕ → Period
of_days a b = record { begins = a * 86400; ends = b * 86400 }

-- A period is a calendar year, month, week from the week start, day, hour, minute or second, by frequency.
abbrev pub year : ℕ → Period
year y = of_days (new_year y) (new_year (y + 1))

-- months are numbered through: 12 for each year, January 0
unfoldable pub month : ℕ → Period
unfolding first_of
month n = of_days (first_of (n / 12) (n % 12 + 1)) (first_of ((n + 1) / 12) ((n + 1) % 12 + 1))

-- the unit that begins at n times its length
abbrev pub unit : ℕ → ℕ → Period
unit length n = record { begins = n * length; ends = (n + 1) * length }

-- The week n weeks after the one that begins on the day w. Week period 0 is whole like the others: it begins with the start's calendar
-- week, before the start or even before 1970. A week is cut at the end of 9999.
abbrev pub week : ℕ → ℕ → Period
week w n = of_days (w + 7 * n) (min (w + 7 * n + 7) range_end)

-- the period n units after the one that holds the second s
unfoldable pub period_after : Frequency → ℕ → ℕ → ℕ → Period
unfolding date_of year_of month
period_after Frequency.Yearly wkst s n = year (year_of (day_of s) + n)
period_after Frequency.Monthly wkst s n = let date : Date = date_of (day_of s) in month (12 * date.year + (date.month - 1) + n)
period_after Frequency.Weekly wkst s n = week (week_of wkst (day_of s)) n
period_after Frequency.Daily wkst s n = unit 86400 (s / 86400 + n)
period_after Frequency.Hourly wkst s n = unit 3600 (s / 3600 + n)
period_after Frequency.Minutely wkst s n = unit 60 (s / 60 + n)
period_after Frequency.Secondly wkst s n = unit 1 (s + n)

-- Period k is the start's period moved on by k times INTERVAL.
unfoldable pub period : Rule → ℕ → Period
unfolding period_after
period r k = period_after r.freq r.wkst (second r.start) (k * r.interval)

-- it begins in range
unfoldable pub in_range : Rule → ℕ → Bool
unfolding period
in_range r k = ltb (period r k).begins (range_end * 86400)
