-- Where period k stands, in whole numbers.
-- Assumes nothing.
use Rattle.std.specs.Prelude.{ℕ, ◌+◌, ◌-◌, ◌*◌, ◌/◌, ◌%◌, ◌&&◌, leb, ltb, if◌then◌else◌, Result, Ok, Err}
use Rattle.calendar.specs.declared.utils.Date.{Date}
use Rattle.calendar.specs.Calendar.{year_of, date_of}
use Rattle.machine.specs.declared.Cause.{Cause}
use Rattle.rule.specs.declared.rrule.Frequency.{Frequency}
use Rattle.rule.specs.declared.rrule.Rule.{Rule}
use Rattle.rule.specs.Instants.{second, last_instant, range_end, day_of}
use Rattle.rule.specs.Days.{week_of}
use Rattle.rule.specs.Filling.{blank}
use Rattle.rule.specs.Periods.{in_range}
use Rattle.rule.specs.Moves.{ticks}
use Rattle.periods.specs.declared.counter_date.Counter.{Counter}

-- how many months there are from the year 0 up to that of the day d
abbrev pub months_before : ℕ → ℕ
months_before d = let date : Date = date_of d in 12 * date.year + (date.month - 1)

-- The number of the period that holds the second s: YEARLY its year, MONTHLY the months from the year 0 on, WEEKLY the first day of its
-- calendar week; from DAILY on the units of that length before it.
unfoldable pub number_of : Frequency → ℕ → ℕ → ℕ
unfolding year_of date_of
number_of Frequency.Yearly wkst s = year_of (day_of s)
number_of Frequency.Monthly wkst s = months_before (day_of s)
number_of Frequency.Weekly wkst s = week_of wkst (day_of s)
number_of Frequency.Daily wkst s = s / 86400
number_of Frequency.Hourly wkst s = s / 3600
number_of Frequency.Minutely wkst s = s / 60
number_of Frequency.Secondly wkst s = s

-- what INTERVAL adds to the number
unfoldable pub step_of : Frequency → ℕ → ℕ
step_of Frequency.Yearly interval = interval
step_of Frequency.Monthly interval = interval
step_of Frequency.Weekly interval = 7 * interval
step_of Frequency.Daily interval = interval
step_of Frequency.Hourly interval = interval
step_of Frequency.Minutely interval = interval
step_of Frequency.Secondly interval = interval

-- The counter of period k with this number. Below DAILY the number is cut into the day and the tick: a day has so many periods.
abbrev pub cut : Frequency → ℕ → ℕ → Counter
cut freq k n = record { k = k; number = n / ticks freq; tick = n % ticks freq }

-- the counter of period k: the start's number, and what INTERVAL adds to it k times
unfoldable pub counter_at : Rule → ℕ → Counter
unfolding number_of step_of
counter_at r k = cut r.freq k (number_of r.freq r.wkst (second r.start) + k * step_of r.freq r.interval)

-- The rule with these four fields and nothing else. Where a period stands depends on no other (Claims, ReachedByFields).
unfoldable pub rule_from : Frequency → ℕ → ℕ → ℕ → Rule
unfolding blank
rule_from freq interval wkst start = record {
  freq = freq;
  interval = interval;
  count = blank.count;
  until = blank.until;
  wkst = wkst;
  start = start;
  bymonth = blank.bymonth;
  bymonthday = blank.bymonthday;
  byyearday = blank.byyearday;
  byweekno = blank.byweekno;
  byday = blank.byday;
  byhour = blank.byhour;
  byminute = blank.byminute;
  bysecond = blank.bysecond;
  bysetpos = blank.bysetpos;
}

-- The counter of period k, where the start is in range and the period begins in it. Both are asked: of a start in the first days of the
-- year 10000 week period 0 may begin in 9999.
unfoldable pub reached_at : Rule → ℕ → Result Counter Cause
unfolding counter_at in_range
reached_at r k = if leb r.start last_instant && in_range r k then Ok (counter_at r k) else Err Cause.Range

-- the first number whose period begins after 9999
unfoldable pub limit_of : Frequency → ℕ
limit_of Frequency.Yearly = 10000
limit_of Frequency.Monthly = 120000
limit_of Frequency.Weekly = range_end
limit_of Frequency.Daily = range_end
limit_of Frequency.Hourly = range_end
limit_of Frequency.Minutely = range_end
limit_of Frequency.Secondly = range_end

-- a counter, where its number is below the first whose period begins after 9999
unfoldable pub below : ℕ → Counter → Result Counter Cause
below limit c = if ltb c.number limit then Ok c else Err Cause.Range
