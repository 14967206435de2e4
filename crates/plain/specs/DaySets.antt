-- Day sets that need no filter: all the days of a stretch of a year's tables, and those of BYMONTH's months, in order.
-- Assumes nothing.
use Rattle.std.specs.Prelude.{ℕ, ◌-◌, Bool, true, not, ◌&&◌, ◌||◌, List, pos, get_or}
use Rattle.rule.specs.Lists.{months, is_in}
use Rattle.clocks.specs.Blocks.{passing}
use Rattle.years.specs.declared.lists.Asked.{Asked}

-- No list is asked: every day passes.
abbrev pub is_plain : Asked → Bool
is_plain a = not (a.month || (a.monthday || (a.yearday || (a.weekno || a.day))))

-- BYMONTH is asked, and nothing beside it.
abbrev pub is_month_alone : Asked → Bool
is_month_alone a = a.month && not (a.monthday || (a.yearday || (a.weekno || a.day)))

-- More than one list is asked, or BYMONTHDAY: no single test decides.
abbrev pub is_mixed : Asked → Bool
is_mixed a =
    a.monthday || ((a.month && (a.yearday || (a.weekno || a.day))) || ((a.yearday && (a.weekno || a.day)) || (a.weekno && a.day)))

-- a month is in BYMONTH
abbrev pub has_month : List Bool → ℕ → Bool
has_month s month = is_in months s (pos month)

-- its test at place i; of the date it sees what the year's table has there
unfoldable pub month_at : (table : List ℕ) → List Bool → ℕ → Bool
unfolding is_in
month_at table s i = has_month s (get_or table i 0)

-- all places, and those that pass BYMONTH, from `from` up to `end`
unfoldable pub all_days : (from end : ℕ) → List ℕ
unfolding passing
all_days from end = passing (λ _. true) (end - from) from

unfoldable pub month_days : (table : List ℕ) → (bymonth : List Bool) → (from end : ℕ) → List ℕ
unfolding passing month_at
month_days table bymonth from end = passing (month_at table bymonth) (end - from) from
