-- What the day test needs of a year, and of which year of which rule it is.
-- Assumes nothing.
use Rattle.std.specs.Prelude.{ℕ, Bool, false, not, ◌&&◌, ◌||◌, List, replicate, if◌then◌else◌}
use Rattle.calendar.specs.Calendar.{month_table, month_day_table, from_end_table}
use Rattle.rule.specs.declared.rrule.Frequency.{Frequency}
use Rattle.rule.specs.declared.rrule.Rule.{Rule}
use Rattle.rule.specs.Lists.{is_empty}
use Rattle.rule.specs.Records.{has_nth}
use Rattle.rule.specs.Filling.{same}
use Rattle.weeks.specs.declared.yearinfo.Year.{Year}
use Rattle.weeks.specs.Weeks.{year_info, week_mask}
use Rattle.nths.specs.Masks.{nth_mask}
use Rattle.years.specs.declared.lists.Asked.{Asked}
use Rattle.years.specs.declared.iterinfo.IterInfo.{IterInfo}

-- which day lists a rule has, and whether BYDAY has entries with n not 0
unfoldable pub asked_of : Rule → Asked
unfolding is_empty has_nth
asked_of r = record {
  month = not (is_empty r.bymonth);
  monthday = not (is_empty r.bymonthday);
  yearday = not (is_empty r.byyearday);
  weekno = not (is_empty r.byweekno);
  day = not (is_empty r.byday);
  nth = has_nth r.byday;
}

-- A table or a mask is made only where it is asked for; otherwise it is blank.
abbrev pub no_table : List ℕ
no_table = replicate 373 0

abbrev pub no_mask : List Bool
no_mask = replicate 373 false

abbrev pub table_where : Bool → List ℕ → List ℕ
table_where asked table = if asked then table else no_table

abbrev pub mask_where : Bool → List Bool → List Bool
mask_where asked mask = if asked then mask else no_mask

-- Something is asked for beside the table of months.
abbrev pub asks_more : Asked → Bool
asks_more a = a.monthday || (a.weekno || a.nth)

-- a year with its tables and masks, each by itself
abbrev pub info_by : Year → (months monthdays fromends : List ℕ) → (weeks nths : List Bool) → IterInfo
info_by year months monthdays fromends weeks nths =
    record { year = year; months = months; monthdays = monthdays; fromends = fromends; weeks = weeks; nths = nths }

-- the year y with its tables and masks
unfoldable pub info_of : Asked → Bool → ℕ → (weeknos days : List Bool) → ℕ → IterInfo
unfolding year_info week_mask nth_mask
info_of a inyear wkst weeknos days y = record {
  year = year_info y;
  months = table_where a.month (month_table (year_info y).long);
  monthdays = table_where a.monthday (month_day_table (year_info y).long);
  fromends = table_where a.monthday (from_end_table (year_info y).long);
  weeks = mask_where a.weekno (week_mask wkst weeknos y);
  nths = mask_where a.nth (nth_mask inyear (year_info y) days);
}

-- YEARLY without BYMONTH: BYDAY's nth entries count in the year.
unfoldable pub counts_in_year : Rule → Bool
unfolding is_empty
counts_in_year r = same r.freq Frequency.Yearly && is_empty r.bymonth

-- of a rule's year
unfoldable pub rule_info : Rule → ℕ → IterInfo
unfolding info_of asked_of counts_in_year
rule_info r y = info_of (asked_of r) (counts_in_year r) r.wkst r.byweekno r.byday y
