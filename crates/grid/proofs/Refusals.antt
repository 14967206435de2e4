-- Each number of the check as a literal, 0 where it accepts, at the edges of every range. Made by compare/make-grid.
-- Assumes nothing.
use mathlib.Core.Path.{◌≡◌, refl}
use mathlib.Core.List.{List, [], ◌∷◌, ◌++◌, map}
use lib.IntN.{pos, neg_ℤ}
use Rattle.rule.specs.Charts.{INTERVAL, COUNT, UNTIL, WKST, BYMONTH, BYMONTHDAY, BYYEARDAY, BYWEEKNO, BYDAY, BYHOUR, BYMINUTE, BYSECOND, BYSETPOS}
use Rattle.grid.specs.Grid.{Judged, gives, numbers}

unfoldable frequency : List Judged
frequency =
    gives 0 6 1704067200 ([]) ∷
    gives 1 7 1704067200 ([]) ∷
    []

frequency_numbered : numbers frequency ≡ map (λ (j : Judged). j.number) frequency
unfolding numbers frequency
frequency_numbered = refl

unfoldable week_start : List Judged
week_start =
    gives 0 3 1704067200 (WKST 6) ∷
    gives 2 3 1704067200 (WKST 7) ∷
    []

week_start_numbered : numbers week_start ≡ map (λ (j : Judged). j.number) week_start
unfolding numbers week_start
week_start_numbered = refl

unfoldable start : List Judged
start =
    gives 0 3 253402300799 ([]) ∷
    gives 3 3 253402300800 ([]) ∷
    []

start_numbered : numbers start ≡ map (λ (j : Judged). j.number) start
unfolding numbers start
start_numbered = refl

unfoldable until : List Judged
until =
    gives 0 3 1704067200 (UNTIL 253402300799) ∷
    gives 4 3 1704067200 (UNTIL 253402300800) ∷
    []

until_numbered : numbers until ≡ map (λ (j : Judged). j.number) until
unfolding numbers until
until_numbered = refl

unfoldable entries_month : List Judged
entries_month =
    gives 5 3 1704067200 (BYMONTH (neg_ℤ (pos 1) ∷ [])) ∷
    gives 5 3 1704067200 (BYMONTH (pos 0 ∷ [])) ∷
    gives 0 3 1704067200 (BYMONTH (pos 1 ∷ [])) ∷
    gives 0 3 1704067200 (BYMONTH (pos 12 ∷ [])) ∷
    gives 5 3 1704067200 (BYMONTH (pos 13 ∷ [])) ∷
    []

entries_month_numbered : numbers entries_month ≡ map (λ (j : Judged). j.number) entries_month
unfolding numbers entries_month
entries_month_numbered = refl

unfoldable entries_monthday : List Judged
entries_monthday =
    gives 5 3 1704067200 (BYMONTHDAY (neg_ℤ (pos 32) ∷ [])) ∷
    gives 0 3 1704067200 (BYMONTHDAY (neg_ℤ (pos 31) ∷ [])) ∷
    gives 0 3 1704067200 (BYMONTHDAY (neg_ℤ (pos 1) ∷ [])) ∷
    gives 5 3 1704067200 (BYMONTHDAY (pos 0 ∷ [])) ∷
    gives 0 3 1704067200 (BYMONTHDAY (pos 1 ∷ [])) ∷
    gives 0 3 1704067200 (BYMONTHDAY (pos 31 ∷ [])) ∷
    gives 5 3 1704067200 (BYMONTHDAY (pos 32 ∷ [])) ∷
    []

entries_monthday_numbered : numbers entries_monthday ≡ map (λ (j : Judged). j.number) entries_monthday
unfolding numbers entries_monthday
entries_monthday_numbered = refl

unfoldable entries_yearday : List Judged
entries_yearday =
    gives 5 0 1704067200 (BYYEARDAY (neg_ℤ (pos 367) ∷ [])) ∷
    gives 0 0 1704067200 (BYYEARDAY (neg_ℤ (pos 366) ∷ [])) ∷
    gives 0 0 1704067200 (BYYEARDAY (neg_ℤ (pos 1) ∷ [])) ∷
    gives 5 0 1704067200 (BYYEARDAY (pos 0 ∷ [])) ∷
    gives 0 0 1704067200 (BYYEARDAY (pos 1 ∷ [])) ∷
    gives 0 0 1704067200 (BYYEARDAY (pos 366 ∷ [])) ∷
    gives 5 0 1704067200 (BYYEARDAY (pos 367 ∷ [])) ∷
    []

entries_yearday_numbered : numbers entries_yearday ≡ map (λ (j : Judged). j.number) entries_yearday
unfolding numbers entries_yearday
entries_yearday_numbered = refl

unfoldable entries_weekno : List Judged
entries_weekno =
    gives 5 0 1704067200 (BYWEEKNO (neg_ℤ (pos 54) ∷ [])) ∷
    gives 0 0 1704067200 (BYWEEKNO (neg_ℤ (pos 53) ∷ [])) ∷
    gives 0 0 1704067200 (BYWEEKNO (neg_ℤ (pos 1) ∷ [])) ∷
    gives 5 0 1704067200 (BYWEEKNO (pos 0 ∷ [])) ∷
    gives 0 0 1704067200 (BYWEEKNO (pos 1 ∷ [])) ∷
    gives 0 0 1704067200 (BYWEEKNO (pos 53 ∷ [])) ∷
    gives 5 0 1704067200 (BYWEEKNO (pos 54 ∷ [])) ∷
    []

entries_weekno_numbered : numbers entries_weekno ≡ map (λ (j : Judged). j.number) entries_weekno
unfolding numbers entries_weekno
entries_weekno_numbered = refl

unfoldable entries_day : List Judged
entries_day =
    gives 5 0 1704067200 (BYDAY (neg_ℤ (pos 54) ∷ []) (pos 0 ∷ [])) ∷
    gives 0 0 1704067200 (BYDAY (neg_ℤ (pos 53) ∷ []) (pos 0 ∷ [])) ∷
    gives 0 0 1704067200 (BYDAY (neg_ℤ (pos 1) ∷ []) (pos 0 ∷ [])) ∷
    gives 0 0 1704067200 (BYDAY (pos 0 ∷ []) (pos 0 ∷ [])) ∷
    gives 0 0 1704067200 (BYDAY (pos 1 ∷ []) (pos 0 ∷ [])) ∷
    gives 0 0 1704067200 (BYDAY (pos 53 ∷ []) (pos 0 ∷ [])) ∷
    gives 5 0 1704067200 (BYDAY (pos 54 ∷ []) (pos 0 ∷ [])) ∷
    gives 5 3 1704067200 (BYDAY (pos 0 ∷ []) (neg_ℤ (pos 1) ∷ [])) ∷
    gives 0 3 1704067200 (BYDAY (pos 0 ∷ []) (pos 0 ∷ [])) ∷
    gives 0 3 1704067200 (BYDAY (pos 0 ∷ []) (pos 6 ∷ [])) ∷
    gives 5 3 1704067200 (BYDAY (pos 0 ∷ []) (pos 7 ∷ [])) ∷
    []

entries_day_numbered : numbers entries_day ≡ map (λ (j : Judged). j.number) entries_day
unfolding numbers entries_day
entries_day_numbered = refl

unfoldable entries_hour : List Judged
entries_hour =
    gives 5 3 1704067200 (BYHOUR (neg_ℤ (pos 1) ∷ [])) ∷
    gives 0 3 1704067200 (BYHOUR (pos 0 ∷ [])) ∷
    gives 0 3 1704067200 (BYHOUR (pos 23 ∷ [])) ∷
    gives 5 3 1704067200 (BYHOUR (pos 24 ∷ [])) ∷
    []

entries_hour_numbered : numbers entries_hour ≡ map (λ (j : Judged). j.number) entries_hour
unfolding numbers entries_hour
entries_hour_numbered = refl

unfoldable entries_minute : List Judged
entries_minute =
    gives 5 3 1704067200 (BYMINUTE (neg_ℤ (pos 1) ∷ [])) ∷
    gives 0 3 1704067200 (BYMINUTE (pos 0 ∷ [])) ∷
    gives 0 3 1704067200 (BYMINUTE (pos 59 ∷ [])) ∷
    gives 5 3 1704067200 (BYMINUTE (pos 60 ∷ [])) ∷
    []

entries_minute_numbered : numbers entries_minute ≡ map (λ (j : Judged). j.number) entries_minute
unfolding numbers entries_minute
entries_minute_numbered = refl

unfoldable entries_second : List Judged
entries_second =
    gives 5 3 1704067200 (BYSECOND (neg_ℤ (pos 1) ∷ [])) ∷
    gives 0 3 1704067200 (BYSECOND (pos 0 ∷ [])) ∷
    gives 0 3 1704067200 (BYSECOND (pos 59 ∷ [])) ∷
    gives 5 3 1704067200 (BYSECOND (pos 60 ∷ [])) ∷
    []

entries_second_numbered : numbers entries_second ≡ map (λ (j : Judged). j.number) entries_second
unfolding numbers entries_second
entries_second_numbered = refl

unfoldable entries_setpos : List Judged
entries_setpos =
    gives 5 3 1704067200 (BYHOUR (pos 0 ∷ []) ++ BYSETPOS (neg_ℤ (pos 367) ∷ [])) ∷
    gives 0 3 1704067200 (BYHOUR (pos 0 ∷ []) ++ BYSETPOS (neg_ℤ (pos 366) ∷ [])) ∷
    gives 0 3 1704067200 (BYHOUR (pos 0 ∷ []) ++ BYSETPOS (neg_ℤ (pos 1) ∷ [])) ∷
    gives 5 3 1704067200 (BYHOUR (pos 0 ∷ []) ++ BYSETPOS (pos 0 ∷ [])) ∷
    gives 0 3 1704067200 (BYHOUR (pos 0 ∷ []) ++ BYSETPOS (pos 1 ∷ [])) ∷
    gives 0 3 1704067200 (BYHOUR (pos 0 ∷ []) ++ BYSETPOS (pos 366 ∷ [])) ∷
    gives 5 3 1704067200 (BYHOUR (pos 0 ∷ []) ++ BYSETPOS (pos 367 ∷ [])) ∷
    []

entries_setpos_numbered : numbers entries_setpos ≡ map (λ (j : Judged). j.number) entries_setpos
unfolding numbers entries_setpos
entries_setpos_numbered = refl

unfoldable order_month : List Judged
order_month =
    gives 0 3 1704067200 (BYMONTH (pos 1 ∷ pos 2 ∷ [])) ∷
    gives 6 3 1704067200 (BYMONTH (pos 1 ∷ pos 1 ∷ [])) ∷
    gives 6 3 1704067200 (BYMONTH (pos 2 ∷ pos 1 ∷ [])) ∷
    []

order_month_numbered : numbers order_month ≡ map (λ (j : Judged). j.number) order_month
unfolding numbers order_month
order_month_numbered = refl

unfoldable order_monthday : List Judged
order_monthday =
    gives 0 3 1704067200 (BYMONTHDAY (pos 1 ∷ pos 2 ∷ [])) ∷
    gives 6 3 1704067200 (BYMONTHDAY (pos 1 ∷ pos 1 ∷ [])) ∷
    gives 6 3 1704067200 (BYMONTHDAY (pos 2 ∷ pos 1 ∷ [])) ∷
    gives 0 3 1704067200 (BYMONTHDAY (neg_ℤ (pos 1) ∷ pos 1 ∷ [])) ∷
    gives 6 3 1704067200 (BYMONTHDAY (pos 1 ∷ neg_ℤ (pos 1) ∷ [])) ∷
    []

order_monthday_numbered : numbers order_monthday ≡ map (λ (j : Judged). j.number) order_monthday
unfolding numbers order_monthday
order_monthday_numbered = refl

unfoldable order_yearday : List Judged
order_yearday =
    gives 0 0 1704067200 (BYYEARDAY (pos 1 ∷ pos 2 ∷ [])) ∷
    gives 6 0 1704067200 (BYYEARDAY (pos 1 ∷ pos 1 ∷ [])) ∷
    gives 6 0 1704067200 (BYYEARDAY (pos 2 ∷ pos 1 ∷ [])) ∷
    gives 0 0 1704067200 (BYYEARDAY (neg_ℤ (pos 1) ∷ pos 1 ∷ [])) ∷
    gives 6 0 1704067200 (BYYEARDAY (pos 1 ∷ neg_ℤ (pos 1) ∷ [])) ∷
    []

order_yearday_numbered : numbers order_yearday ≡ map (λ (j : Judged). j.number) order_yearday
unfolding numbers order_yearday
order_yearday_numbered = refl

unfoldable order_weekno : List Judged
order_weekno =
    gives 0 0 1704067200 (BYWEEKNO (pos 1 ∷ pos 2 ∷ [])) ∷
    gives 6 0 1704067200 (BYWEEKNO (pos 1 ∷ pos 1 ∷ [])) ∷
    gives 6 0 1704067200 (BYWEEKNO (pos 2 ∷ pos 1 ∷ [])) ∷
    gives 0 0 1704067200 (BYWEEKNO (neg_ℤ (pos 1) ∷ pos 1 ∷ [])) ∷
    gives 6 0 1704067200 (BYWEEKNO (pos 1 ∷ neg_ℤ (pos 1) ∷ [])) ∷
    []

order_weekno_numbered : numbers order_weekno ≡ map (λ (j : Judged). j.number) order_weekno
unfolding numbers order_weekno
order_weekno_numbered = refl

unfoldable order_day : List Judged
order_day =
    gives 0 0 1704067200 (BYDAY (pos 0 ∷ pos 0 ∷ []) (pos 1 ∷ pos 2 ∷ [])) ∷
    gives 6 0 1704067200 (BYDAY (pos 0 ∷ pos 0 ∷ []) (pos 1 ∷ pos 1 ∷ [])) ∷
    gives 6 0 1704067200 (BYDAY (pos 0 ∷ pos 0 ∷ []) (pos 2 ∷ pos 1 ∷ [])) ∷
    gives 0 0 1704067200 (BYDAY (neg_ℤ (pos 1) ∷ pos 1 ∷ []) (pos 1 ∷ pos 1 ∷ [])) ∷
    gives 0 0 1704067200 (BYDAY (neg_ℤ (pos 1) ∷ pos 1 ∷ []) (pos 2 ∷ pos 1 ∷ [])) ∷
    gives 6 0 1704067200 (BYDAY (pos 1 ∷ neg_ℤ (pos 1) ∷ []) (pos 1 ∷ pos 1 ∷ [])) ∷
    gives 0 0 1704067200 (BYDAY (pos 1 ∷ pos 2 ∷ []) (pos 1 ∷ pos 1 ∷ [])) ∷
    gives 0 0 1704067200 (BYDAY (pos 1 ∷ pos 2 ∷ []) (pos 2 ∷ pos 1 ∷ [])) ∷
    gives 6 0 1704067200 (BYDAY (pos 2 ∷ pos 1 ∷ []) (pos 1 ∷ pos 1 ∷ [])) ∷
    gives 6 0 1704067200 (BYDAY (pos 2 ∷ pos 1 ∷ []) (pos 1 ∷ pos 2 ∷ [])) ∷
    gives 0 0 1704067200 (BYDAY (pos 1 ∷ pos 1 ∷ []) (pos 1 ∷ pos 2 ∷ [])) ∷
    gives 6 0 1704067200 (BYDAY (pos 1 ∷ pos 1 ∷ []) (pos 2 ∷ pos 1 ∷ [])) ∷
    []

order_day_numbered : numbers order_day ≡ map (λ (j : Judged). j.number) order_day
unfolding numbers order_day
order_day_numbered = refl

unfoldable order_hour : List Judged
order_hour =
    gives 0 3 1704067200 (BYHOUR (pos 1 ∷ pos 2 ∷ [])) ∷
    gives 6 3 1704067200 (BYHOUR (pos 1 ∷ pos 1 ∷ [])) ∷
    gives 6 3 1704067200 (BYHOUR (pos 2 ∷ pos 1 ∷ [])) ∷
    []

order_hour_numbered : numbers order_hour ≡ map (λ (j : Judged). j.number) order_hour
unfolding numbers order_hour
order_hour_numbered = refl

unfoldable order_minute : List Judged
order_minute =
    gives 0 3 1704067200 (BYMINUTE (pos 1 ∷ pos 2 ∷ [])) ∷
    gives 6 3 1704067200 (BYMINUTE (pos 1 ∷ pos 1 ∷ [])) ∷
    gives 6 3 1704067200 (BYMINUTE (pos 2 ∷ pos 1 ∷ [])) ∷
    []

order_minute_numbered : numbers order_minute ≡ map (λ (j : Judged). j.number) order_minute
unfolding numbers order_minute
order_minute_numbered = refl

unfoldable order_second : List Judged
order_second =
    gives 0 3 1704067200 (BYSECOND (pos 1 ∷ pos 2 ∷ [])) ∷
    gives 6 3 1704067200 (BYSECOND (pos 1 ∷ pos 1 ∷ [])) ∷
    gives 6 3 1704067200 (BYSECOND (pos 2 ∷ pos 1 ∷ [])) ∷
    []

order_second_numbered : numbers order_second ≡ map (λ (j : Judged). j.number) order_second
unfolding numbers order_second
order_second_numbered = refl

unfoldable order_setpos : List Judged
order_setpos =
    gives 0 3 1704067200 (BYHOUR (pos 0 ∷ []) ++ BYSETPOS (pos 1 ∷ pos 2 ∷ [])) ∷
    gives 6 3 1704067200 (BYHOUR (pos 0 ∷ []) ++ BYSETPOS (pos 1 ∷ pos 1 ∷ [])) ∷
    gives 6 3 1704067200 (BYHOUR (pos 0 ∷ []) ++ BYSETPOS (pos 2 ∷ pos 1 ∷ [])) ∷
    gives 0 3 1704067200 (BYHOUR (pos 0 ∷ []) ++ BYSETPOS (neg_ℤ (pos 1) ∷ pos 1 ∷ [])) ∷
    gives 6 3 1704067200 (BYHOUR (pos 0 ∷ []) ++ BYSETPOS (pos 1 ∷ neg_ℤ (pos 1) ∷ [])) ∷
    []

order_setpos_numbered : numbers order_setpos ≡ map (λ (j : Judged). j.number) order_setpos
unfolding numbers order_setpos
order_setpos_numbered = refl

unfoldable mixed : List Judged
mixed =
    gives 7 0 1704067200 (BYDAY (pos 0 ∷ pos 2 ∷ []) (pos 0 ∷ pos 1 ∷ [])) ∷
    gives 7 1 1704067200 (BYDAY (pos 0 ∷ pos 2 ∷ []) (pos 0 ∷ pos 1 ∷ [])) ∷
    gives 7 3 1704067200 (BYDAY (pos 0 ∷ pos 2 ∷ []) (pos 0 ∷ pos 1 ∷ [])) ∷
    gives 7 0 1704067200 (BYDAY (neg_ℤ (pos 2) ∷ pos 0 ∷ []) (pos 1 ∷ pos 0 ∷ [])) ∷
    []

mixed_numbered : numbers mixed ≡ map (λ (j : Judged). j.number) mixed
unfolding numbers mixed
mixed_numbered = refl

unfoldable nth : List Judged
nth =
    gives 0 0 1704067200 (BYDAY (pos 2 ∷ []) (pos 1 ∷ [])) ∷
    gives 0 1 1704067200 (BYDAY (pos 2 ∷ []) (pos 1 ∷ [])) ∷
    gives 8 2 1704067200 (BYDAY (pos 2 ∷ []) (pos 1 ∷ [])) ∷
    gives 8 3 1704067200 (BYDAY (pos 2 ∷ []) (pos 1 ∷ [])) ∷
    gives 8 4 1704067200 (BYDAY (pos 2 ∷ []) (pos 1 ∷ [])) ∷
    gives 8 5 1704067200 (BYDAY (pos 2 ∷ []) (pos 1 ∷ [])) ∷
    gives 8 6 1704067200 (BYDAY (pos 2 ∷ []) (pos 1 ∷ [])) ∷
    gives 0 0 1704067200 (BYDAY (neg_ℤ (pos 2) ∷ []) (pos 1 ∷ [])) ∷
    gives 0 1 1704067200 (BYDAY (neg_ℤ (pos 2) ∷ []) (pos 1 ∷ [])) ∷
    gives 8 2 1704067200 (BYDAY (neg_ℤ (pos 2) ∷ []) (pos 1 ∷ [])) ∷
    gives 8 3 1704067200 (BYDAY (neg_ℤ (pos 2) ∷ []) (pos 1 ∷ [])) ∷
    gives 8 4 1704067200 (BYDAY (neg_ℤ (pos 2) ∷ []) (pos 1 ∷ [])) ∷
    gives 8 5 1704067200 (BYDAY (neg_ℤ (pos 2) ∷ []) (pos 1 ∷ [])) ∷
    gives 8 6 1704067200 (BYDAY (neg_ℤ (pos 2) ∷ []) (pos 1 ∷ [])) ∷
    gives 8 0 1704067200 (BYWEEKNO (pos 1 ∷ []) ++ BYDAY (pos 2 ∷ []) (pos 1 ∷ [])) ∷
    gives 8 1 1704067200 (BYWEEKNO (pos 1 ∷ []) ++ BYDAY (pos 2 ∷ []) (pos 1 ∷ [])) ∷
    gives 0 0 1704067200 (BYWEEKNO (pos 1 ∷ []) ++ BYDAY (pos 0 ∷ []) (pos 1 ∷ [])) ∷
    gives 12 1 1704067200 (BYWEEKNO (pos 1 ∷ []) ++ BYDAY (pos 0 ∷ []) (pos 1 ∷ [])) ∷
    []

nth_numbered : numbers nth ≡ map (λ (j : Judged). j.number) nth
unfolding numbers nth
nth_numbered = refl

unfoldable positions : List Judged
positions =
    gives 9 0 1704067200 (BYSETPOS (pos 1 ∷ [])) ∷
    gives 9 1 1704067200 (BYSETPOS (pos 1 ∷ [])) ∷
    gives 9 2 1704067200 (BYSETPOS (pos 1 ∷ [])) ∷
    gives 9 3 1704067200 (BYSETPOS (pos 1 ∷ [])) ∷
    gives 9 4 1704067200 (BYSETPOS (pos 1 ∷ [])) ∷
    gives 9 5 1704067200 (BYSETPOS (pos 1 ∷ [])) ∷
    gives 9 6 1704067200 (BYSETPOS (pos 1 ∷ [])) ∷
    gives 0 3 1704067200 ([]) ∷
    gives 0 3 1704067200 (BYMONTH (pos 1 ∷ []) ++ BYSETPOS (pos 1 ∷ [])) ∷
    gives 0 3 1704067200 (BYMONTHDAY (pos 1 ∷ []) ++ BYSETPOS (pos 1 ∷ [])) ∷
    gives 0 0 1704067200 (BYYEARDAY (pos 1 ∷ []) ++ BYSETPOS (pos 1 ∷ [])) ∷
    gives 0 0 1704067200 (BYWEEKNO (pos 1 ∷ []) ++ BYSETPOS (pos 1 ∷ [])) ∷
    gives 0 3 1704067200 (BYDAY (pos 0 ∷ []) (pos 1 ∷ []) ++ BYSETPOS (pos 1 ∷ [])) ∷
    gives 0 3 1704067200 (BYHOUR (pos 0 ∷ []) ++ BYSETPOS (pos 1 ∷ [])) ∷
    gives 0 3 1704067200 (BYMINUTE (pos 0 ∷ []) ++ BYSETPOS (pos 1 ∷ [])) ∷
    gives 0 3 1704067200 (BYSECOND (pos 0 ∷ []) ++ BYSETPOS (pos 1 ∷ [])) ∷
    []

positions_numbered : numbers positions ≡ map (λ (j : Judged). j.number) positions
unfolding numbers positions
positions_numbered = refl

unfoldable nought : List Judged
nought =
    gives 0 3 1704067200 ([]) ∷
    gives 10 3 1704067200 (INTERVAL 0) ∷
    gives 0 3 1704067200 (INTERVAL 1) ∷
    gives 10 3 1704067200 (COUNT 0) ∷
    gives 0 3 1704067200 (COUNT 1) ∷
    gives 10 3 1704067200 (INTERVAL 0 ++ COUNT 1) ∷
    gives 10 3 1704067200 (INTERVAL 2 ++ COUNT 0) ∷
    gives 0 3 1704067200 (INTERVAL 65535 ++ COUNT 4294967295) ∷
    []

nought_numbered : numbers nought ≡ map (λ (j : Judged). j.number) nought
unfolding numbers nought
nought_numbered = refl

unfoldable count_and_until : List Judged
count_and_until =
    gives 0 3 1704067200 (COUNT 1) ∷
    gives 0 3 1704067200 (UNTIL 1704067200) ∷
    gives 11 3 1704067200 (COUNT 1 ++ UNTIL 1704067200) ∷
    gives 11 3 1704067200 (COUNT 3 ++ UNTIL 0) ∷
    gives 11 3 1704067200 (COUNT 4294967295 ++ UNTIL 253402300799) ∷
    []

count_and_until_numbered : numbers count_and_until ≡ map (λ (j : Judged). j.number) count_and_until
unfolding numbers count_and_until
count_and_until_numbered = refl

unfoldable misplaced_weekno : List Judged
misplaced_weekno =
    gives 0 0 1704067200 (BYWEEKNO (pos 1 ∷ [])) ∷
    gives 12 1 1704067200 (BYWEEKNO (pos 1 ∷ [])) ∷
    gives 12 2 1704067200 (BYWEEKNO (pos 1 ∷ [])) ∷
    gives 12 3 1704067200 (BYWEEKNO (pos 1 ∷ [])) ∷
    gives 12 4 1704067200 (BYWEEKNO (pos 1 ∷ [])) ∷
    gives 12 5 1704067200 (BYWEEKNO (pos 1 ∷ [])) ∷
    gives 12 6 1704067200 (BYWEEKNO (pos 1 ∷ [])) ∷
    gives 0 0 1704067200 (BYWEEKNO (neg_ℤ (pos 1) ∷ [])) ∷
    gives 12 1 1704067200 (BYWEEKNO (neg_ℤ (pos 1) ∷ [])) ∷
    gives 12 2 1704067200 (BYWEEKNO (neg_ℤ (pos 1) ∷ [])) ∷
    gives 12 3 1704067200 (BYWEEKNO (neg_ℤ (pos 1) ∷ [])) ∷
    gives 12 4 1704067200 (BYWEEKNO (neg_ℤ (pos 1) ∷ [])) ∷
    gives 12 5 1704067200 (BYWEEKNO (neg_ℤ (pos 1) ∷ [])) ∷
    gives 12 6 1704067200 (BYWEEKNO (neg_ℤ (pos 1) ∷ [])) ∷
    []

misplaced_weekno_numbered : numbers misplaced_weekno ≡ map (λ (j : Judged). j.number) misplaced_weekno
unfolding numbers misplaced_weekno
misplaced_weekno_numbered = refl

unfoldable misplaced_yearday : List Judged
misplaced_yearday =
    gives 0 0 1704067200 (BYYEARDAY (pos 1 ∷ [])) ∷
    gives 12 1 1704067200 (BYYEARDAY (pos 1 ∷ [])) ∷
    gives 12 2 1704067200 (BYYEARDAY (pos 1 ∷ [])) ∷
    gives 12 3 1704067200 (BYYEARDAY (pos 1 ∷ [])) ∷
    gives 0 4 1704067200 (BYYEARDAY (pos 1 ∷ [])) ∷
    gives 0 5 1704067200 (BYYEARDAY (pos 1 ∷ [])) ∷
    gives 0 6 1704067200 (BYYEARDAY (pos 1 ∷ [])) ∷
    gives 0 0 1704067200 (BYYEARDAY (neg_ℤ (pos 1) ∷ [])) ∷
    gives 12 1 1704067200 (BYYEARDAY (neg_ℤ (pos 1) ∷ [])) ∷
    gives 12 2 1704067200 (BYYEARDAY (neg_ℤ (pos 1) ∷ [])) ∷
    gives 12 3 1704067200 (BYYEARDAY (neg_ℤ (pos 1) ∷ [])) ∷
    gives 0 4 1704067200 (BYYEARDAY (neg_ℤ (pos 1) ∷ [])) ∷
    gives 0 5 1704067200 (BYYEARDAY (neg_ℤ (pos 1) ∷ [])) ∷
    gives 0 6 1704067200 (BYYEARDAY (neg_ℤ (pos 1) ∷ [])) ∷
    []

misplaced_yearday_numbered : numbers misplaced_yearday ≡ map (λ (j : Judged). j.number) misplaced_yearday
unfolding numbers misplaced_yearday
misplaced_yearday_numbered = refl

unfoldable misplaced_monthday : List Judged
misplaced_monthday =
    gives 0 0 1704067200 (BYMONTHDAY (pos 1 ∷ [])) ∷
    gives 0 1 1704067200 (BYMONTHDAY (pos 1 ∷ [])) ∷
    gives 12 2 1704067200 (BYMONTHDAY (pos 1 ∷ [])) ∷
    gives 0 3 1704067200 (BYMONTHDAY (pos 1 ∷ [])) ∷
    gives 0 4 1704067200 (BYMONTHDAY (pos 1 ∷ [])) ∷
    gives 0 5 1704067200 (BYMONTHDAY (pos 1 ∷ [])) ∷
    gives 0 6 1704067200 (BYMONTHDAY (pos 1 ∷ [])) ∷
    gives 0 0 1704067200 (BYMONTHDAY (neg_ℤ (pos 1) ∷ [])) ∷
    gives 0 1 1704067200 (BYMONTHDAY (neg_ℤ (pos 1) ∷ [])) ∷
    gives 12 2 1704067200 (BYMONTHDAY (neg_ℤ (pos 1) ∷ [])) ∷
    gives 0 3 1704067200 (BYMONTHDAY (neg_ℤ (pos 1) ∷ [])) ∷
    gives 0 4 1704067200 (BYMONTHDAY (neg_ℤ (pos 1) ∷ [])) ∷
    gives 0 5 1704067200 (BYMONTHDAY (neg_ℤ (pos 1) ∷ [])) ∷
    gives 0 6 1704067200 (BYMONTHDAY (neg_ℤ (pos 1) ∷ [])) ∷
    gives 12 2 1704067200 (BYMONTHDAY (neg_ℤ (pos 1) ∷ pos 1 ∷ [])) ∷
    []

misplaced_monthday_numbered : numbers misplaced_monthday ≡ map (λ (j : Judged). j.number) misplaced_monthday
unfolding numbers misplaced_monthday
misplaced_monthday_numbered = refl

unfoldable lowest : List Judged
lowest =
    gives 1 7 1704067200 (WKST 7) ∷
    gives 2 3 253402300800 (WKST 7) ∷
    gives 3 3 253402300800 (UNTIL 253402300800) ∷
    gives 4 3 1704067200 (UNTIL 253402300800 ++ BYHOUR (pos 24 ∷ [])) ∷
    gives 5 3 1704067200 (BYMONTH (pos 13 ∷ []) ++ BYHOUR (pos 9 ∷ pos 8 ∷ [])) ∷
    gives 6 3 1704067200 (BYDAY (pos 2 ∷ pos 0 ∷ []) (pos 1 ∷ pos 0 ∷ [])) ∷
    gives 7 2 1704067200 (BYDAY (pos 0 ∷ pos 2 ∷ []) (pos 0 ∷ pos 1 ∷ [])) ∷
    gives 5 3 1704067200 (BYSETPOS (pos 0 ∷ [])) ∷
    gives 6 3 1704067200 (BYSETPOS (pos 1 ∷ pos 1 ∷ [])) ∷
    gives 8 3 1704067200 (BYWEEKNO (pos 1 ∷ []) ++ BYDAY (pos 2 ∷ []) (pos 1 ∷ [])) ∷
    gives 9 3 1704067200 (INTERVAL 0 ++ BYSETPOS (pos 1 ∷ [])) ∷
    gives 10 3 1704067200 (COUNT 0 ++ UNTIL 1704067200) ∷
    gives 11 2 1704067200 (COUNT 1 ++ UNTIL 1704067200 ++ BYMONTHDAY (pos 1 ∷ [])) ∷
    gives 4 3 1704067200 (COUNT 1 ++ UNTIL 253402300800) ∷
    gives 5 2 1704067200 (BYMONTHDAY (pos 0 ∷ [])) ∷
    gives 1 7 253402300800 (UNTIL 253402300800 ++ WKST 7 ++ BYHOUR (pos 24 ∷ pos 8 ∷ []) ++ BYSETPOS (pos 0 ∷ [])) ∷
    []

lowest_numbered : numbers lowest ≡ map (λ (j : Judged). j.number) lowest
unfolding numbers lowest
lowest_numbered = refl
