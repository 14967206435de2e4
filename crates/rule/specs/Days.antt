-- Which days pass. A day passes if it passes every non-empty list.
-- Assumes nothing.
use Rattle.std.specs.Prelude.{ℕ, ◌+◌, ◌-◌, ◌/◌, ◌%◌, Bool, ◌&&◌, ◌||◌, List, ltb, leb, pos, neg_ℤ, ◌-ℤ◌, if◌then◌else◌}
use Rattle.rule.specs.declared.rrule.Frequency.{Frequency}
use Rattle.rule.specs.declared.rrule.Rule.{Rule}
use Rattle.calendar.specs.declared.utils.Date.{Date}
use Rattle.calendar.specs.Calendar.{year_length, new_year, date_of, weekday}
use Rattle.rule.specs.declared.rrule.Range.{Range}
use Rattle.rule.specs.Lists.{months, monthdays, yeardays, weeknos, is_in, is_pair_in, is_empty}
use Rattle.rule.specs.Filling.{same}

-- place p of n is in a list, forward (the first is 1) or from the end (the last is -1)
unfoldable pub either_end : Range → List Bool → ℕ → ℕ → Bool
unfolding is_in
either_end g s p n = is_in g s (pos p) || is_in g s (neg_ℤ (pos (n + 1 - p)))

-- month; month day, forward or from the month's end; year day likewise
unfoldable pub month_passes : Rule → Date → Bool
unfolding is_in
month_passes r date = is_in months r.bymonth (pos date.month)

unfoldable pub monthday_passes : Rule → Date → Bool
unfolding either_end
monthday_passes r date = either_end monthdays r.bymonthday date.day date.length

-- the day of the year, from 1
abbrev pub yearday : ℕ → ℕ → ℕ
yearday y d = d - new_year y + 1

unfoldable pub yearday_passes : Rule → ℕ → ℕ → Bool
unfolding either_end
yearday_passes r y d = either_end yeardays r.byyearday (yearday y d) (year_length y)

-- the first day of the day's week, where weeks begin on the weekday w
abbrev pub week_of : ℕ → ℕ → ℕ
week_of w d = d - (d + 7 - w) % 7

-- Week number: weeks from the week start, week 1 the first with four or more days in the year (Meaning, WeekOneIs).
unfoldable pub week1 : ℕ → ℕ → ℕ
week1 w y = if leb (new_year y + 4) (week_of w (new_year y) + 7) then week_of w (new_year y) else week_of w (new_year y) + 7

-- the week year of a day of the year y (Meaning, WeekYearIs)
unfoldable pub week_year : ℕ → ℕ → ℕ → ℕ
unfolding week1
week_year w y d = if ltb d (week1 w y) then y - 1 else if leb (week1 w (y + 1)) d then y + 1 else y

-- the number of the day's week in the week year y; the weeks of the week year y
unfoldable pub week_number : ℕ → ℕ → ℕ → ℕ
unfolding week1
week_number w y d = (d - week1 w y) / 7 + 1

unfoldable pub weeks_in : ℕ → ℕ → ℕ
unfolding week1
weeks_in w y = (week1 w (y + 1) - week1 w y) / 7

-- A day has number w in its own week year of N weeks and passes for w or w - N - 1.
abbrev pub number_passes : List Bool → ℕ → ℕ → Bool
number_passes s w n = is_in weeknos s (pos w) || is_in weeknos s (pos w -ℤ pos n -ℤ pos 1)

unfoldable pub week_passes : Rule → ℕ → ℕ → Bool
unfolding is_in week_year week_number weeks_in
week_passes r y d =
    let own : ℕ = week_year r.wkst y d in
    number_passes r.byweekno (week_number r.wkst own d) (weeks_in r.wkst own)

-- The nth such weekday of a span: place p of n days is the ((p - 1) / 7 + 1)th of its weekday, and the ((n - p) / 7 + 1)th from the end
-- (Meaning, NthIs and NthFromEndIs).
abbrev pub nth_of : ℕ → ℕ
nth_of p = (p - 1) / 7 + 1

abbrev pub nth_from_end : ℕ → ℕ → ℕ
nth_from_end p n = (n - p) / 7 + 1

unfoldable pub nth_passes : List Bool → ℕ → ℕ → ℕ → Bool
unfolding is_pair_in
nth_passes s w p n = is_pair_in s (pos (nth_of p)) (pos w) || is_pair_in s (neg_ℤ (pos (nth_from_end p n))) (pos w)

-- BYDAY with n = 0: the weekday. With n not 0: the nth such weekday, or from the end, of the month (MONTHLY), of the month (YEARLY with
-- BYMONTH), of the year (YEARLY without).
unfoldable pub weekday_passes : Rule → Date → ℕ → Bool
unfolding is_pair_in is_empty nth_passes
weekday_passes r date d =
    is_pair_in r.byday (pos 0) (pos (weekday d))
    || (if same r.freq Frequency.Yearly && is_empty r.bymonth
    then nth_passes r.byday (weekday d) (yearday date.year d) (year_length date.year)
    else nth_passes r.byday (weekday d) date.day date.length)

-- a test that an empty list passes
abbrev pub asked : List Bool → Bool → Bool
asked s b = is_empty s || b

unfoldable pub date_passes : Rule → Date → ℕ → Bool
unfolding is_empty month_passes monthday_passes yearday_passes week_passes weekday_passes
date_passes r date d =
    asked r.bymonth (month_passes r date)
    && (asked r.bymonthday (monthday_passes r date)
    && (asked r.byyearday (yearday_passes r date.year d)
    && (asked r.byweekno (week_passes r date.year d)
    && asked r.byday (weekday_passes r date d))))

unfoldable pub day_passes : Rule → ℕ → Bool
unfolding date_passes date_of
day_passes r d = date_passes r (date_of d) d
