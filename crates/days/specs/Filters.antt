-- The day test at a place of a year's tables: the date by the tables, the week and the nth weekday by the masks. An empty list is not asked.
-- Assumes nothing.
use Rattle.std.specs.Prelude.{ℕ, ◌+◌, Bool, false, not, ◌&&◌, ◌||◌, List, pos, neg_ℤ, get_or}
use Rattle.calendar.specs.Calendar.{weekday}
use Rattle.rule.specs.Lists.{monthdays, yeardays, is_in, is_pair_in}
use Rattle.rule.specs.declared.rrule.Rule.{Rule}
use Rattle.rule.specs.Days.{either_end}
use Rattle.nths.specs.Masks.{in_tables, year_day_at, year_length_at}
use Rattle.years.specs.declared.lists.Asked.{Asked}
use Rattle.years.specs.declared.iterinfo.IterInfo.{IterInfo}
use Rattle.plain.specs.DaySets.{month_at}

-- the day lists that are asked by the date
pub record DayLists : Type 0 where
  pub bymonth : List Bool
  pub bymonthday : List Bool
  pub byyearday : List Bool
  pub byday : List Bool

abbrev pub day_lists : (bymonth bymonthday byyearday byday : List Bool) → DayLists
day_lists bymonth bymonthday byyearday byday = record { bymonth = bymonth; bymonthday = bymonthday; byyearday = byyearday; byday = byday }

-- a rule's own
abbrev pub rule_lists : Rule → DayLists
rule_lists r = day_lists r.bymonth r.bymonthday r.byyearday r.byday

-- a test that passes where it is not asked
abbrev pub where_asked : Bool → Bool → Bool
where_asked a b = not a || b

-- a day of the month, and one from the month's end, is in BYMONTHDAY
abbrev pub has_day : List Bool → ℕ → Bool
has_day s day = is_in monthdays s (pos day)

abbrev pub has_left : List Bool → ℕ → Bool
has_left s left = is_in monthdays s (neg_ℤ (pos left))

-- each list's test at place i, after BYMONTH's, in document 01's order; of the date it sees what the year's tables have there
unfoldable pub monthday_at : (days ends : List ℕ) → List Bool → ℕ → Bool
unfolding is_in
monthday_at days ends s i = has_day s (get_or days i 0) || has_left s (get_or ends i 0)

unfoldable pub yearday_at : Bool → Bool → List Bool → ℕ → Bool
unfolding either_end year_day_at year_length_at
yearday_at long nextlong s i = either_end yeardays s (year_day_at long i) (year_length_at long nextlong i)

-- BYDAY: some entry passes, every weekday or nth
unfoldable pub weekday_at : Bool → ℕ → List Bool → List Bool → ℕ → Bool
unfolding is_pair_in
weekday_at nth first s nths i = is_pair_in s (pos 0) (pos (weekday (first + i))) || (nth && get_or nths i false)

-- The place lies in the tables, and its day passes every list that is asked.
unfoldable pub place_passes : Asked → IterInfo → DayLists → ℕ → Bool
unfolding month_at monthday_at yearday_at weekday_at
place_passes a info l i =
    in_tables info.year.long i
    && (where_asked a.month (month_at info.months l.bymonth i)
    && (where_asked a.monthday (monthday_at info.monthdays info.fromends l.bymonthday i)
    && (where_asked a.yearday (yearday_at info.year.long info.year.nextlong l.byyearday i)
    && (where_asked a.weekno (get_or info.weeks i false)
    && where_asked a.day (weekday_at a.nth info.year.first l.byday info.nths i)))))
