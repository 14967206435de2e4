-- Each of these is answered otherwise by a wrong version of one definition.
-- Assumes nothing.
use Rattle.std.specs.Prelude.{Some, None, Ok, Err}
use mathlib.Core.Path.{◌≡◌, refl}
use mathlib.Core.List.{[], ◌∷◌}
use lib.IntN.{pos, negsuc}
use Rattle.machine.specs.declared.Cause.{Cause}
use Rattle.machine.specs.declared.State.{State}
use Rattle.machine.specs.declared.Fault.{Fault}
use Rattle.machine.specs.declared.Stop.{Stop}
use Rattle.calendar.specs.Calendar.{leap, new_year, days_before_month}
use Rattle.machine.specs.Compute.{runs, after, walk}
use Rattle.machine.specs.Run.{at_candidate, counted, move_on}
use Rattle.rule.specs.declared.rrule.Refusal.{Refusal}
use Rattle.rule.specs.Raw.{raw, raw_lists}
use Rattle.cases.specs.Play.{of, at, told, play, play_from}

-- MONTHLY;BYMONTHDAY=-1 from 2024-02-01: 29 February, 31 March
month_end :
    play (raw 1 1 None None 0 1706745600 (raw_lists [] (negsuc 0 ∷ []) [] [] [] [] [] [] [] [])) (of 2 2 ∷ [])
    ≡ Ok (told Stop.More (at State.Running 1 1 2) 1 2 (1709164800 ∷ 1711843200 ∷ []) ∷ [])
unfolding play play_from runs after walk at_candidate counted move_on leap new_year days_before_month
month_end = refl

-- YEARLY;BYYEARDAY=1
year_day_1 :
    play (raw 0 1 None None 0 1704067200 (raw_lists [] [] (pos 1 ∷ []) [] [] [] [] [] [] [])) (of 2 1 ∷ [])
    ≡ Ok (told Stop.More (at State.Running 1 1 2) 1 2 (1704067200 ∷ 1735689600 ∷ []) ∷ [])
unfolding play play_from runs after walk at_candidate counted move_on leap new_year days_before_month
year_day_1 = refl

-- YEARLY;BYYEARDAY=-1: 31 December 2024, 31 December 2025
year_end :
    play (raw 0 1 None None 0 1704067200 (raw_lists [] [] (negsuc 0 ∷ []) [] [] [] [] [] [] [])) (of 2 1 ∷ [])
    ≡ Ok (told Stop.More (at State.Running 1 1 2) 1 2 (1735603200 ∷ 1767139200 ∷ []) ∷ [])
unfolding play play_from runs after walk at_candidate counted move_on leap new_year days_before_month
year_end = refl

-- YEARLY;BYWEEKNO=1;WKST=SU from 2024-01-01
weeks_from_sunday :
    play (raw 0 1 None None 6 1704067200 (raw_lists [] [] [] (pos 1 ∷ []) [] [] [] [] [] [])) (of 1 0 ∷ [])
    ≡ Ok (told Stop.More (at State.Running 0 1 1) 0 1 (1704067200 ∷ []) ∷ [])
unfolding play play_from runs after walk at_candidate counted move_on leap new_year days_before_month
weeks_from_sunday = refl

-- YEARLY;BYWEEKNO=-53 from 2026-01-01: week 1 of 53
week_53 :
    play (raw 0 1 None None 0 1767225600 (raw_lists [] [] [] (negsuc 52 ∷ []) [] [] [] [] [] [])) (of 1 0 ∷ [])
    ≡ Ok (told Stop.More (at State.Running 0 1 1) 0 1 (1767225600 ∷ []) ∷ [])
unfolding play play_from runs after walk at_candidate counted move_on leap new_year days_before_month
week_53 = refl

-- YEARLY;BYWEEKNO=-1 from 2027-01-01: the last week of 2026, which has 53
weeks_of_its_own_year :
    play (raw 0 1 None None 0 1798761600 (raw_lists [] [] [] (negsuc 0 ∷ []) [] [] [] [] [] [])) (of 1 0 ∷ [])
    ≡ Ok (told Stop.More (at State.Running 0 1 1) 0 1 (1798761600 ∷ []) ∷ [])
unfolding play play_from runs after walk at_candidate counted move_on leap new_year days_before_month
weeks_of_its_own_year = refl

-- MONTHLY;BYDAY=1SU: 7 January
first_sunday :
    play (raw 1 1 None None 0 1704067200 (raw_lists [] [] [] [] (pos 1 ∷ []) (pos 6 ∷ []) [] [] [] [])) (of 1 0 ∷ [])
    ≡ Ok (told Stop.More (at State.Running 0 1 1) 0 1 (1704585600 ∷ []) ∷ [])
unfolding play play_from runs after walk at_candidate counted move_on leap new_year days_before_month
first_sunday = refl

-- YEARLY;BYDAY=-1TU in 2024: 31 December, not the 24th
last_tuesday :
    play (raw 0 1 None None 0 1704067200 (raw_lists [] [] [] [] (negsuc 0 ∷ []) (pos 1 ∷ []) [] [] [] [])) (of 1 0 ∷ [])
    ≡ Ok (told Stop.More (at State.Running 0 1 1) 0 1 (1735603200 ∷ []) ∷ [])
unfolding play play_from runs after walk at_candidate counted move_on leap new_year days_before_month
last_tuesday = refl

-- YEARLY;BYDAY=-53TU in 2024: 2 January
tuesday_53_from_the_end :
    play (raw 0 1 None None 0 1704067200 (raw_lists [] [] [] [] (negsuc 52 ∷ []) (pos 1 ∷ []) [] [] [] [])) (of 1 0 ∷ [])
    ≡ Ok (told Stop.More (at State.Running 0 1 1) 0 1 (1704153600 ∷ []) ∷ [])
unfolding play play_from runs after walk at_candidate counted move_on leap new_year days_before_month
tuesday_53_from_the_end = refl

-- MINUTELY;BYMINUTE=5: one move, k = 5
minute :
    play (raw 5 1 None None 0 1704067200 (raw_lists [] [] [] [] [] [] [] (pos 5 ∷ []) [] [])) (of 1 1 ∷ [])
    ≡ Ok (told Stop.More (at State.Running 5 1 1) 1 1 (1704067500 ∷ []) ∷ [])
unfolding play play_from runs after walk at_candidate counted move_on leap new_year days_before_month
minute = refl

-- SECONDLY;BYSECOND=5: one move, k = 5
second :
    play (raw 6 1 None None 0 1704067200 (raw_lists [] [] [] [] [] [] [] [] (pos 5 ∷ []) [])) (of 1 1 ∷ [])
    ≡ Ok (told Stop.More (at State.Running 5 1 1) 1 1 (1704067205 ∷ []) ∷ [])
unfolding play play_from runs after walk at_candidate counted move_on leap new_year days_before_month
second = refl

-- HOURLY;BYMINUTE=30: 00:30 and 01:30
hour_tick :
    play (raw 4 1 None None 0 1704067200 (raw_lists [] [] [] [] [] [] [] (pos 30 ∷ []) [] [])) (of 2 1 ∷ [])
    ≡ Ok (told Stop.More (at State.Running 1 1 2) 1 2 (1704069000 ∷ 1704072600 ∷ []) ∷ [])
unfolding play play_from runs after walk at_candidate counted move_on leap new_year days_before_month
hour_tick = refl

-- WEEKLY;BYDAY=FR,SA from 9999-12-25: two, then Range
week_later :
    play (raw 2 1 None None 0 253401696000 (raw_lists [] [] [] [] (pos 0 ∷ pos 0 ∷ []) (pos 4 ∷ pos 5 ∷ []) [] [] [] [])) (of 4 9 ∷ [])
    ≡ Ok (told Stop.Ended (at (State.Ended Cause.Range) 1 1 2) 1 2 (253401696000 ∷ 253402214400 ∷ 102 ∷ 103 ∷ []) ∷ [])
unfolding play play_from runs after walk at_candidate counted move_on leap new_year days_before_month
week_later = refl

-- HOURLY from 00:30: after its candidate next is 01:00, so 1801 handed out is 21
hour_ends :
    play_from (at State.Running 0 1 1801) (raw 4 1 None None 0 1704069000 (raw_lists [] [] [] [] [] [] [] [] [] [])) (of 1 0 ∷ [])
    ≡ Ok (told (Stop.Refused Fault.Cursor) (at State.Running 0 1 1801) 0 0 (100 ∷ []) ∷ [])
unfolding play play_from runs after walk at_candidate counted move_on leap new_year days_before_month
hour_ends = refl

-- DAILY from 00:00:05
seconds_kept :
    play (raw 3 1 None None 0 1704067205 (raw_lists [] [] [] [] [] [] [] [] [] [])) (of 1 0 ∷ [])
    ≡ Ok (told Stop.More (at State.Running 0 1 1) 0 1 (1704067205 ∷ []) ∷ [])
unfolding play play_from runs after walk at_candidate counted move_on leap new_year days_before_month
seconds_kept = refl

-- times of a day rise
times :
    play (raw 3 1 None None 0 1704067200 (raw_lists [] [] [] [] [] [] (pos 1 ∷ pos 2 ∷ []) (pos 0 ∷ pos 30 ∷ []) (pos 1 ∷ pos 2 ∷ []) [])) (of 8 0 ∷ [])
    ≡ Ok (told Stop.More (at State.Running 0 8 8) 0 8 (1704070801 ∷ 1704070802 ∷ 1704072601 ∷ 1704072602 ∷ 1704074401 ∷ 1704074402 ∷ 1704076201 ∷ 1704076202 ∷ []) ∷ [])
unfolding play play_from runs after walk at_candidate counted move_on leap new_year days_before_month
times = refl

-- 384 candidates a day and BYSETPOS=1: one a day
positions_alone_keep :
    play (raw 3 1 None None 0 1704067200 (raw_lists [] [] [] [] [] [] (pos 0 ∷ pos 1 ∷ pos 2 ∷ pos 3 ∷ pos 4 ∷ pos 5 ∷ pos 6 ∷ pos 7 ∷ pos 8 ∷ pos 9 ∷ pos 10 ∷ pos 11 ∷ pos 12 ∷ pos 13 ∷ pos 14 ∷ pos 15 ∷ pos 16 ∷ pos 17 ∷ pos 18 ∷ pos 19 ∷ pos 20 ∷ pos 21 ∷ pos 22 ∷ pos 23 ∷ []) (pos 0 ∷ pos 1 ∷ pos 2 ∷ pos 3 ∷ pos 4 ∷ pos 5 ∷ pos 6 ∷ pos 7 ∷ pos 8 ∷ pos 9 ∷ pos 10 ∷ pos 11 ∷ pos 12 ∷ pos 13 ∷ pos 14 ∷ pos 15 ∷ []) [] (pos 1 ∷ []))) (of 2 1 ∷ [])
    ≡ Ok (told Stop.More (at State.Running 1 1 2) 1 2 (1704067200 ∷ 1704153600 ∷ []) ∷ [])
unfolding play play_from runs after walk at_candidate counted move_on leap new_year days_before_month
positions_alone_keep = refl

-- last work day of January and February 2024
last_position :
    play (raw 1 1 None None 0 1704067200 (raw_lists [] [] [] [] (pos 0 ∷ pos 0 ∷ pos 0 ∷ pos 0 ∷ pos 0 ∷ []) (pos 0 ∷ pos 1 ∷ pos 2 ∷ pos 3 ∷ pos 4 ∷ []) [] [] [] (negsuc 0 ∷ []))) (of 2 1 ∷ [])
    ≡ Ok (told Stop.More (at State.Running 1 1 2) 1 2 (1706659200 ∷ 1709164800 ∷ []) ∷ [])
unfolding play play_from runs after walk at_candidate counted move_on leap new_year days_before_month
last_position = refl

-- HOURLY;BYMONTHDAY=2 from 2024-01-01 05:00: one move, k = 19
next_day_lem :
    play (raw 4 1 None None 0 1704085200 (raw_lists [] (pos 2 ∷ []) [] [] [] [] [] [] [] [])) (of 1 1 ∷ [])
    ≡ Ok (told Stop.More (at State.Running 19 1 1) 1 1 (1704153600 ∷ []) ∷ [])
unfolding play play_from runs after walk at_candidate counted move_on leap new_year days_before_month
next_day_lem = refl

-- HOURLY;INTERVAL=2;BYMONTHDAY=2: one move, k = 12
next_day_with_interval :
    play (raw 4 2 None None 0 1704067200 (raw_lists [] (pos 2 ∷ []) [] [] [] [] [] [] [] [])) (of 1 1 ∷ [])
    ≡ Ok (told Stop.More (at State.Running 12 1 1) 1 1 (1704153600 ∷ []) ∷ [])
unfolding play play_from runs after walk at_candidate counted move_on leap new_year days_before_month
next_day_with_interval = refl

-- MINUTELY;BYHOUR=3: one move, k = 180
tries :
    play (raw 5 1 None None 0 1704067200 (raw_lists [] [] [] [] [] [] (pos 3 ∷ []) [] [] [])) (of 1 1 ∷ [])
    ≡ Ok (told Stop.More (at State.Running 180 1 1) 1 1 (1704078000 ∷ []) ∷ [])
unfolding play play_from runs after walk at_candidate counted move_on leap new_year days_before_month
tries = refl

-- none remains in period 1: 172800 may have been handed out
ends :
    play_from (at State.Running 1 1 172800) (raw 3 1 None None 0 1704067200 (raw_lists [] [] [] [] [] [] [] [] [] [])) (of 1 0 ∷ [])
    ≡ Ok (told Stop.Limited (at State.Running 1 1 172800) 0 0 (100 ∷ []) ∷ [])
unfolding play play_from runs after walk at_candidate counted move_on leap new_year days_before_month
ends = refl

-- DAILY;BYHOUR=0,12 from 06:00: 12:00; 00:00 is passed and not handed out
start :
    play (raw 3 1 None None 0 1704088800 (raw_lists [] [] [] [] [] [] (pos 0 ∷ pos 12 ∷ []) [] [] [])) (of 1 0 ∷ [])
    ≡ Ok (told Stop.More (at State.Running 0 2 1) 0 1 (1704110400 ∷ []) ∷ [])
unfolding play play_from runs after walk at_candidate counted move_on leap new_year days_before_month
start = refl

-- UNTIL at a candidate: it is handed out, the next one ends
until_in_the_middle :
    play (raw 3 1 None (Some 1704067200) 0 1704067200 (raw_lists [] [] [] [] [] [] (pos 0 ∷ pos 12 ∷ []) [] [] [])) (of 2 0 ∷ [])
    ≡ Ok (told Stop.Ended (at (State.Ended Cause.Until) 0 1 1) 0 1 (1704067200 ∷ 101 ∷ []) ∷ [])
unfolding play play_from runs after walk at_candidate counted move_on leap new_year days_before_month
until_in_the_middle = refl

-- place above the kept candidates: 21
place :
    play_from (at State.Running 1 2 0) (raw 3 1 None None 0 1704067200 (raw_lists [] [] [] [] [] [] [] [] [] [])) (of 1 0 ∷ [])
    ≡ Ok (told (Stop.Refused Fault.Cursor) (at State.Running 1 2 0) 0 0 (100 ∷ []) ∷ [])
unfolding play play_from runs after walk at_candidate counted move_on leap new_year days_before_month
place = refl

-- MONTHLY over the turn of the year
year_end_of_twelve :
    play (raw 1 1 None None 0 1703980800 (raw_lists [] (pos 31 ∷ []) [] [] [] [] [] [] [] [])) (of 2 2 ∷ [])
    ≡ Ok (told Stop.More (at State.Running 1 1 2) 1 2 (1703980800 ∷ 1706659200 ∷ []) ∷ [])
unfolding play play_from runs after walk at_candidate counted move_on leap new_year days_before_month
year_end_of_twelve = refl

-- MINUTELY;BYHOUR=3;BYMINUTE=0: one move, k = 180
no_hour :
    play (raw 5 1 None None 0 1704067200 (raw_lists [] [] [] [] [] [] (pos 3 ∷ []) (pos 0 ∷ []) [] [])) (of 1 1 ∷ [])
    ≡ Ok (told Stop.More (at State.Running 180 1 1) 1 1 (1704078000 ∷ []) ∷ [])
unfolding play play_from runs after walk at_candidate counted move_on leap new_year days_before_month
no_hour = refl

-- WEEKLY;BYMONTH=2;BYDAY=MO
month :
    play (raw 2 1 None None 0 1704067200 (raw_lists (pos 2 ∷ []) [] [] [] (pos 0 ∷ []) (pos 0 ∷ []) [] [] [] [])) (of 1 9 ∷ [])
    ≡ Ok (told Stop.More (at State.Running 5 1 1) 5 1 (1707091200 ∷ []) ∷ [])
unfolding play play_from runs after walk at_candidate counted move_on leap new_year days_before_month
month = refl

-- MONTHLY;BYMONTHDAY=13;BYDAY=SA
month_day_by_itself :
    play (raw 1 1 None None 0 1704067200 (raw_lists [] (pos 13 ∷ []) [] [] (pos 0 ∷ []) (pos 5 ∷ []) [] [] [] [])) (of 1 2 ∷ [])
    ≡ Ok (told Stop.More (at State.Running 0 1 1) 0 1 (1705104000 ∷ []) ∷ [])
unfolding play play_from runs after walk at_candidate counted move_on leap new_year days_before_month
month_day_by_itself = refl

-- WEEKLY;BYMONTHDAY=13;BYDAY=SA: 12
month_day_in_a_week :
    play (raw 2 1 None None 0 1704067200 (raw_lists [] (pos 13 ∷ []) [] [] (pos 0 ∷ []) (pos 5 ∷ []) [] [] [] [])) ([])
    ≡ Err Refusal.ListMisplaced
unfolding play play_from runs after walk at_candidate counted move_on leap new_year days_before_month
month_day_in_a_week = refl

-- DAILY at 23:59:59
hour_23 :
    play (raw 3 1 None None 0 1704067200 (raw_lists [] [] [] [] [] [] (pos 23 ∷ []) (pos 59 ∷ []) (pos 59 ∷ []) [])) (of 1 0 ∷ [])
    ≡ Ok (told Stop.More (at State.Running 0 1 1) 0 1 (1704153599 ∷ []) ∷ [])
unfolding play play_from runs after walk at_candidate counted move_on leap new_year days_before_month
hour_23 = refl

-- DAILY from 00:45:45
minute_45 :
    play (raw 3 1 None None 0 1704069945 (raw_lists [] [] [] [] [] [] [] [] [] [])) (of 1 0 ∷ [])
    ≡ Ok (told Stop.More (at State.Running 0 1 1) 0 1 (1704069945 ∷ []) ∷ [])
unfolding play play_from runs after walk at_candidate counted move_on leap new_year days_before_month
minute_45 = refl

-- HOURLY;BYHOUR=0: the 24th tick
last_of_24_ticks :
    play (raw 4 1 None None 0 1704067200 (raw_lists [] [] [] [] [] [] (pos 0 ∷ []) [] [] [])) (of 2 1 ∷ [])
    ≡ Ok (told Stop.More (at State.Running 24 1 2) 1 2 (1704067200 ∷ 1704153600 ∷ []) ∷ [])
unfolding play play_from runs after walk at_candidate counted move_on leap new_year days_before_month
last_of_24_ticks = refl

-- MINUTELY;BYHOUR=0;BYMINUTE=0: the 1440th tick
last_of_1440_ticks :
    play (raw 5 1 None None 0 1704067200 (raw_lists [] [] [] [] [] [] (pos 0 ∷ []) (pos 0 ∷ []) [] [])) (of 2 1 ∷ [])
    ≡ Ok (told Stop.More (at State.Running 1440 1 2) 1 2 (1704067200 ∷ 1704153600 ∷ []) ∷ [])
unfolding play play_from runs after walk at_candidate counted move_on leap new_year days_before_month
last_of_1440_ticks = refl

-- YEARLY;BYWEEKNO=2;WKST=SU: 7 January 2024
week_2_from_sunday :
    play (raw 0 1 None None 6 1704067200 (raw_lists [] [] [] (pos 2 ∷ []) [] [] [] [] [] [])) (of 1 0 ∷ [])
    ≡ Ok (told Stop.More (at State.Running 0 1 1) 0 1 (1704585600 ∷ []) ∷ [])
unfolding play play_from runs after walk at_candidate counted move_on leap new_year days_before_month
week_2_from_sunday = refl

-- MINUTELY from 00:00:30: after its candidate next is 00:01:00, so 31 handed out is 21
from_the_middle :
    play_from (at State.Running 0 1 31) (raw 5 1 None None 0 1704067230 (raw_lists [] [] [] [] [] [] [] [] [] [])) (of 1 0 ∷ [])
    ≡ Ok (told (Stop.Refused Fault.Cursor) (at State.Running 0 1 31) 0 0 (100 ∷ []) ∷ [])
unfolding play play_from runs after walk at_candidate counted move_on leap new_year days_before_month
from_the_middle = refl

-- YEARLY;BYMONTH=12;BYMONTHDAY=31 from 9999-01-01: one, then Range
last_year :
    play (raw 0 1 None None 0 253370764800 (raw_lists (pos 12 ∷ []) (pos 31 ∷ []) [] [] [] [] [] [] [] [])) (of 1 1 ∷ of 1 1 ∷ [])
    ≡ Ok (told Stop.More (at State.Running 0 1 1) 0 1 (253402214400 ∷ []) ∷ told Stop.Ended (at (State.Ended Cause.Range) 0 1 1) 0 0 (100 ∷ []) ∷ [])
unfolding play play_from runs after walk at_candidate counted move_on leap new_year days_before_month
last_year = refl

-- MONTHLY;BYMONTHDAY=-1 from 9999-12-01: one, then Range
last_month :
    play (raw 1 1 None None 0 253399622400 (raw_lists [] (negsuc 0 ∷ []) [] [] [] [] [] [] [] [])) (of 2 2 ∷ [])
    ≡ Ok (told Stop.Ended (at (State.Ended Cause.Range) 0 1 1) 0 1 (253402214400 ∷ 101 ∷ []) ∷ [])
unfolding play play_from runs after walk at_candidate counted move_on leap new_year days_before_month
last_month = refl

-- DAILY from 9999-12-30: two, then Range, one move
two_last :
    play (raw 3 1 None None 0 253402128000 (raw_lists [] [] [] [] [] [] [] [] [] [])) (of 3 9 ∷ [])
    ≡ Ok (told Stop.Ended (at (State.Ended Cause.Range) 1 1 2) 1 2 (253402128000 ∷ 253402214400 ∷ 102 ∷ []) ∷ [])
unfolding play play_from runs after walk at_candidate counted move_on leap new_year days_before_month
two_last = refl

-- DAILY;INTERVAL=2 with k = 2^63: k times INTERVAL doesn't wrap around to period 0: 21
wrap :
    play_from (at State.Running 9223372036854775808 0 0) (raw 3 2 None None 0 1704067200 (raw_lists [] [] [] [] [] [] [] [] [] [])) (of 1 0 ∷ [])
    ≡ Ok (told (Stop.Refused Fault.Cursor) (at State.Running 9223372036854775808 0 0) 0 0 (100 ∷ []) ∷ [])
unfolding play play_from runs after walk at_candidate counted move_on leap new_year days_before_month
wrap = refl

-- MINUTELY;BYSECOND=0,30: both in period 0
seconds_in_a_minute :
    play (raw 5 1 None None 0 1704067200 (raw_lists [] [] [] [] [] [] [] [] (pos 0 ∷ pos 30 ∷ []) [])) (of 2 0 ∷ [])
    ≡ Ok (told Stop.More (at State.Running 0 2 2) 0 2 (1704067200 ∷ 1704067230 ∷ []) ∷ [])
unfolding play play_from runs after walk at_candidate counted move_on leap new_year days_before_month
seconds_in_a_minute = refl

-- BYMONTHDAY=-2,-1: accepted
negatives :
    play (raw 3 1 None None 0 1704067200 (raw_lists [] (negsuc 1 ∷ negsuc 0 ∷ []) [] [] [] [] [] [] [] [])) (of 1 1 ∷ [])
    ≡ Ok (told Stop.Limited (at State.Running 1 0 0) 1 0 (100 ∷ []) ∷ [])
unfolding play play_from runs after walk at_candidate counted move_on leap new_year days_before_month
negatives = refl

-- BYMONTHDAY=-1,-2: 6
negatives_not_there :
    play (raw 3 1 None None 0 1704067200 (raw_lists [] (negsuc 0 ∷ negsuc 1 ∷ []) [] [] [] [] [] [] [] [])) ([])
    ≡ Err Refusal.NotRising
unfolding play play_from runs after walk at_candidate counted move_on leap new_year days_before_month
negatives_not_there = refl
