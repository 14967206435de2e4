-- The record that an accepted check yields: the sets of the lists, filled in from the start.
-- Assumes nothing.
use Rattle.std.specs.Prelude.{ℕ, ◌≡◌, Bool, false, ◌&&◌, ◌||◌, List, eqb, ltb, replicate, pos, if◌then◌else◌, Option, None, Result, Ok, Err}
use Rattle.rule.specs.declared.rrule.Frequency.{Frequency}
use Rattle.rule.specs.declared.rrule.Rule.{Rule}
use Rattle.calendar.specs.declared.utils.Date.{Date}
use Rattle.calendar.specs.Calendar.{date_of, weekday}
use Rattle.rule.specs.Instants.{second, day_of, hour_of, minute_of, second_of}
use Rattle.rule.specs.Lists.{months, monthdays, yeardays, weeknos, hours, minutes, seconds, positions, slot_of, pair_slot, is_empty, set_of, mark}
use Rattle.rule.specs.Raw.{RawLists, Raw, entries, pairs}
use Rattle.rule.specs.declared.rrule.Refusal.{Refusal}
use Rattle.rule.specs.Refusals.{Verdict, verdict}

-- frequency 0 to 6: YEARLY, MONTHLY, WEEKLY, DAILY, HOURLY, MINUTELY, SECONDLY
abbrev pub frequency_number : Frequency → ℕ
frequency_number Frequency.Yearly = 0
frequency_number Frequency.Monthly = 1
frequency_number Frequency.Weekly = 2
frequency_number Frequency.Daily = 3
frequency_number Frequency.Hourly = 4
frequency_number Frequency.Minutely = 5
frequency_number Frequency.Secondly = 6

-- a number above 6 is refused before it is asked for
unfoldable pub frequency : ℕ → Frequency
frequency n =
    if eqb n 0 then Frequency.Yearly
    else if eqb n 1 then Frequency.Monthly
    else if eqb n 2 then Frequency.Weekly
    else if eqb n 3 then Frequency.Daily
    else if eqb n 4 then Frequency.Hourly
    else if eqb n 5 then Frequency.Minutely
    else Frequency.Secondly

-- the record as it is given, before filling in: the sets of the lists
unfoldable pub given_as : Frequency → ℕ → Option ℕ → Option ℕ → (wkst start : ℕ) → RawLists → Rule
unfolding set_of slot_of pairs
given_as freq interval count until wkst start l = record {
  freq = freq;
  interval = interval;
  count = count;
  until = until;
  wkst = wkst;
  start = start;
  bymonth = set_of 12 (entries months l.bymonth);
  bymonthday = set_of 62 (entries monthdays l.bymonthday);
  byyearday = set_of 732 (entries yeardays l.byyearday);
  byweekno = set_of 106 (entries weeknos l.byweekno);
  byday = set_of 749 (pairs l.bydayn l.bydayw);
  byhour = set_of 24 (entries hours l.byhour);
  byminute = set_of 60 (entries minutes l.byminute);
  bysecond = set_of 60 (entries seconds l.bysecond);
  bysetpos = set_of 732 (entries positions l.bysetpos);
}

unfoldable pub given : Raw → Rule
unfolding frequency given_as
given w = given_as (frequency w.freq) w.interval w.count w.until w.wkst w.start w.lists

-- f has longer periods than g ("below", reading 8)
abbrev pub is_below : Frequency → Frequency → Bool
is_below f g = ltb (frequency_number f) (frequency_number g)

abbrev pub same : Frequency → Frequency → Bool
same f g = eqb (frequency_number f) (frequency_number g)

-- an empty list takes a value where the test says so
unfoldable pub takes : Bool → List Bool → Option ℕ → List Bool
unfolding is_empty
takes b s e = if b && is_empty s then mark s e else s

-- BYWEEKNO, BYYEARDAY, BYMONTHDAY and BYDAY are all empty
unfoldable pub no_days : Rule → Bool
unfolding is_empty
no_days r = is_empty r.byweekno && (is_empty r.byyearday && (is_empty r.bymonthday && is_empty r.byday))

-- Filling in: if BYWEEKNO, BYYEARDAY, BYMONTHDAY and BYDAY are all empty, then YEARLY takes the start's month (if BYMONTH is empty) and
-- month day, MONTHLY its month day, WEEKLY its weekday. Empty BYHOUR takes the start's hour below HOURLY, BYMINUTE its minute below
-- MINUTELY, BYSECOND its second below SECONDLY.
unfoldable pub fill_from : Rule → Bool → ℕ → Date → Rule
unfolding takes slot_of pair_slot
fill_from r free s date = record {
  freq = r.freq;
  interval = r.interval;
  count = r.count;
  until = r.until;
  wkst = r.wkst;
  start = r.start;
  bymonth = takes (free && same r.freq Frequency.Yearly) r.bymonth (slot_of months (pos date.month));
  bymonthday = takes (free && (same r.freq Frequency.Yearly || same r.freq Frequency.Monthly)) r.bymonthday (slot_of monthdays (pos date.day));
  byyearday = r.byyearday;
  byweekno = r.byweekno;
  byday = takes (free && same r.freq Frequency.Weekly) r.byday (pair_slot (pos 0) (pos (weekday (day_of s))));
  byhour = takes (is_below r.freq Frequency.Hourly) r.byhour (slot_of hours (pos (hour_of s)));
  byminute = takes (is_below r.freq Frequency.Minutely) r.byminute (slot_of minutes (pos (minute_of s)));
  bysecond = takes (is_below r.freq Frequency.Secondly) r.bysecond (slot_of seconds (pos (second_of s)));
  bysetpos = r.bysetpos;
}

unfoldable pub fill : Rule → Rule
unfolding fill_from no_days date_of
fill r = fill_from r (no_days r) (second r.start) (date_of (day_of (second r.start)))

-- the record that holds nothing: all its numbers are 0, its lists empty
unfoldable pub blank : Rule
blank = record {
  freq = Frequency.Yearly;
  interval = 0;
  count = None;
  until = None;
  wkst = 0;
  start = 0;
  bymonth = replicate 12 false;
  bymonthday = replicate 62 false;
  byyearday = replicate 732 false;
  byweekno = replicate 106 false;
  byday = replicate 749 false;
  byhour = replicate 24 false;
  byminute = replicate 60 false;
  bysecond = replicate 60 false;
  bysetpos = replicate 732 false;
}

-- The check: the lowest refusal that applies; or the filled record.
abbrev pub Checked : Type 0
Checked = Result Rule Refusal

unfoldable pub answers : Verdict → Rule → Checked
answers (Err n) r = Err n
answers (Ok tt) r = Ok r

unfoldable pub checked : Raw → Checked
unfolding answers verdict given fill
checked w = answers (verdict w) (fill (given w))

-- an accepted check yields this record
abbrev pub Yields : Raw → Rule → Type 0
Yields w r = checked w ≡ Ok r
