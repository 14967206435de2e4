-- The cases of request 2026-02: the first week is a whole week.
-- Assumes nothing.
use Rattle.std.specs.Prelude.{Option, Some, None, Ok}
use Prim.Native.Nat.{ℕ}
use mathlib.Core.Path.{◌≡◌, refl}
use mathlib.Core.List.{List, [], ◌∷◌, map}
use lib.IntN.{ℤ, pos, negsuc}
use Rattle.machine.specs.declared.Cause.{Cause}
use Rattle.machine.specs.declared.State.{State}
use Rattle.machine.specs.declared.Fault.{Fault}
use Rattle.machine.specs.declared.Stop.{Stop}
use Rattle.calendar.specs.Calendar.{leap, new_year, days_before_month}
use Rattle.machine.specs.Compute.{runs, after, walk}
use Rattle.machine.specs.Run.{at_candidate, counted, move_on}
use Rattle.rule.specs.Raw.{Raw, raw, raw_lists}
use Rattle.cases.specs.Play.{of, at, told, play, play_from}

-- a WEEKLY rule by INTERVAL, UNTIL, week start, start, BYMONTH, weekdays and BYSETPOS; and one with weekdays and BYSETPOS alone
abbrev weekly_by : ℕ → Option ℕ → (wkst start : ℕ) → (months days positions : List ℤ) → Raw
weekly_by interval until wkst start months days positions =
    raw 2 interval None until wkst start (raw_lists months [] [] [] (map (λ (d : ℤ). pos 0) days) days [] [] [] positions)

abbrev weekly : ℕ → (days positions : List ℤ) → Raw
weekly start days positions = weekly_by 1 None 0 start [] days positions

-- ---- the week of Wednesday 2024-01-03

-- without BYSETPOS too the place counts from the week start
place_from_the_week_start :
    play (weekly 1704240000 (pos 0 ∷ pos 2 ∷ []) []) (of 1 5 ∷ [])
    ≡ Ok (told Stop.More (at State.Running 0 2 1) 0 1 (1704240000 ∷ []) ∷ [])
unfolding play play_from runs after walk at_candidate counted move_on leap new_year days_before_month
place_from_the_week_start = refl

-- with no room nothing is passed, not even what lies before the start
no_room :
    play (weekly 1704240000 (pos 0 ∷ pos 4 ∷ []) []) (of 0 5 ∷ [])
    ≡ Ok (told Stop.More (at State.Running 0 0 0) 0 0 [] ∷ [])
unfolding play play_from runs after walk at_candidate counted move_on leap new_year days_before_month
no_room = refl

-- MO,FR: position 1 is Monday, before the start; so 8 and 15 January
first_of_the_week :
    play (weekly 1704240000 (pos 0 ∷ pos 4 ∷ []) (pos 1 ∷ [])) (of 2 5 ∷ [])
    ≡ Ok (told Stop.More (at State.Running 2 1 2) 2 2 (1704672000 ∷ 1705276800 ∷ []) ∷ [])
unfolding play play_from runs after walk at_candidate counted move_on leap new_year days_before_month
first_of_the_week = refl

-- from the end: Friday 5 and 12 January
last_of_the_week :
    play (weekly 1704240000 (pos 0 ∷ pos 4 ∷ []) (negsuc 0 ∷ [])) (of 2 5 ∷ [])
    ≡ Ok (told Stop.More (at State.Running 1 1 2) 1 2 (1704412800 ∷ 1705017600 ∷ []) ∷ [])
unfolding play play_from runs after walk at_candidate counted move_on leap new_year days_before_month
last_of_the_week = refl

-- position -2 is Monday again
second_from_the_end :
    play (weekly 1704240000 (pos 0 ∷ pos 4 ∷ []) (negsuc 1 ∷ [])) (of 1 5 ∷ [])
    ≡ Ok (told Stop.More (at State.Running 1 1 1) 1 1 (1704672000 ∷ []) ∷ [])
unfolding play play_from runs after walk at_candidate counted move_on leap new_year days_before_month
second_from_the_end = refl

-- INTERVAL 2: 15 and 29 January
every_other_week :
    play (weekly_by 2 None 0 1704240000 [] (pos 0 ∷ pos 4 ∷ []) (pos 1 ∷ [])) (of 2 5 ∷ [])
    ≡ Ok (told Stop.More (at State.Running 2 1 2) 2 2 (1705276800 ∷ 1706486400 ∷ []) ∷ [])
unfolding play play_from runs after walk at_candidate counted move_on leap new_year days_before_month
every_other_week = refl

-- weeks from Wednesday: the start's day is the first, and Friday is position 1
on_the_week_start :
    play (weekly_by 1 None 2 1704240000 [] (pos 0 ∷ pos 4 ∷ []) (pos 1 ∷ [])) (of 1 5 ∷ [])
    ≡ Ok (told Stop.More (at State.Running 0 1 1) 0 1 (1704412800 ∷ []) ∷ [])
unfolding play play_from runs after walk at_candidate counted move_on leap new_year days_before_month
on_the_week_start = refl

-- ---- UNTIL before the start: the first candidate above it ends the run

-- Monday lies by UNTIL and is passed, Tuesday doesn't
monday_passed :
    play (weekly_by 1 (Some 1704110400) 0 1704240000 [] (pos 0 ∷ pos 1 ∷ pos 2 ∷ []) []) (of 1 5 ∷ [])
    ≡ Ok (told Stop.Ended (at (State.Ended Cause.Until) 0 1 0) 0 0 (100 ∷ []) ∷ [])
unfolding play play_from runs after walk at_candidate counted move_on leap new_year days_before_month
monday_passed = refl

-- Tuesday ends the run before a move is made, with no move allowed too
tuesday_ends :
    play (weekly_by 1 (Some 1704067200) 0 1704240000 [] (pos 1 ∷ []) []) (of 1 5 ∷ [])
    ≡ Ok (told Stop.Ended (at (State.Ended Cause.Until) 0 0 0) 0 0 (100 ∷ []) ∷ [])
unfolding play play_from runs after walk at_candidate counted move_on leap new_year days_before_month
tuesday_ends = refl

tuesday_ends_unmoved :
    play (weekly_by 1 (Some 1704067200) 0 1704240000 [] (pos 1 ∷ []) []) (of 1 0 ∷ [])
    ≡ Ok (told Stop.Ended (at (State.Ended Cause.Until) 0 0 0) 0 0 (100 ∷ []) ∷ [])
unfolding play play_from runs after walk at_candidate counted move_on leap new_year days_before_month
tuesday_ends_unmoved = refl

-- ---- cursors in week period 0 of MO,WE,FR: Monday 1, Wednesday 3 and Friday 5 January

from_monday :
    play_from (at State.Running 0 0 0) (weekly 1704240000 (pos 0 ∷ pos 2 ∷ pos 4 ∷ []) []) (of 1 0 ∷ [])
    ≡ Ok (told Stop.More (at State.Running 0 2 1) 0 1 (1704240000 ∷ []) ∷ [])
unfolding play play_from runs after walk at_candidate counted move_on leap new_year days_before_month
from_monday = refl

from_wednesday :
    play_from (at State.Running 0 1 0) (weekly 1704240000 (pos 0 ∷ pos 2 ∷ pos 4 ∷ []) []) (of 1 0 ∷ [])
    ≡ Ok (told Stop.More (at State.Running 0 2 1) 0 1 (1704240000 ∷ []) ∷ [])
unfolding play play_from runs after walk at_candidate counted move_on leap new_year days_before_month
from_wednesday = refl

from_friday :
    play_from (at State.Running 0 2 1) (weekly 1704240000 (pos 0 ∷ pos 2 ∷ pos 4 ∷ []) []) (of 1 0 ∷ [])
    ≡ Ok (told Stop.More (at State.Running 0 3 2) 0 1 (1704412800 ∷ []) ∷ [])
unfolding play play_from runs after walk at_candidate counted move_on leap new_year days_before_month
from_friday = refl

after_friday :
    play_from (at State.Running 0 3 2) (weekly 1704240000 (pos 0 ∷ pos 2 ∷ pos 4 ∷ []) []) (of 1 1 ∷ [])
    ≡ Ok (told Stop.More (at State.Running 1 1 3) 1 1 (1704672000 ∷ []) ∷ [])
unfolding play play_from runs after walk at_candidate counted move_on leap new_year days_before_month
after_friday = refl

-- place 4 is 21
after_the_week :
    play_from (at State.Running 0 4 2) (weekly 1704240000 (pos 0 ∷ pos 2 ∷ pos 4 ∷ []) []) (of 1 1 ∷ [])
    ≡ Ok (told (Stop.Refused Fault.Cursor) (at State.Running 0 4 2) 0 0 (100 ∷ []) ∷ [])
unfolding play play_from runs after walk at_candidate counted move_on leap new_year days_before_month
after_the_week = refl

-- up to the start none can have been handed out: a number of 1 is 21
none_by_wednesday :
    play_from (at State.Running 0 1 1) (weekly 1704240000 (pos 0 ∷ pos 2 ∷ pos 4 ∷ []) []) (of 1 1 ∷ [])
    ≡ Ok (told (Stop.Refused Fault.Cursor) (at State.Running 0 1 1) 0 0 (100 ∷ []) ∷ [])
unfolding play play_from runs after walk at_candidate counted move_on leap new_year days_before_month
none_by_wednesday = refl

-- before the start too
none_by_monday :
    play_from (at State.Running 0 0 1) (weekly 1704240000 (pos 0 ∷ pos 4 ∷ []) []) (of 1 1 ∷ [])
    ≡ Ok (told (Stop.Refused Fault.Cursor) (at State.Running 0 0 1) 0 0 (100 ∷ []) ∷ [])
unfolding play play_from runs after walk at_candidate counted move_on leap new_year days_before_month
none_by_monday = refl

-- by Friday a second each can have been
by_friday :
    play_from (at State.Running 0 1 172800) (weekly 1704240000 (pos 0 ∷ pos 4 ∷ []) []) (of 0 0 ∷ [])
    ≡ Ok (told Stop.More (at State.Running 0 1 172800) 0 0 [] ∷ [])
unfolding play play_from runs after walk at_candidate counted move_on leap new_year days_before_month
by_friday = refl

by_friday_no_more :
    play_from (at State.Running 0 1 172801) (weekly 1704240000 (pos 0 ∷ pos 4 ∷ []) []) (of 0 0 ∷ [])
    ≡ Ok (told (Stop.Refused Fault.Cursor) (at State.Running 0 1 172801) 0 0 [] ∷ [])
unfolding play play_from runs after walk at_candidate counted move_on leap new_year days_before_month
by_friday_no_more = refl

-- ---- the week of Thursday 1970-01-01, whose first days lie in 1969

-- MO,TH: Monday 29 December 1969 is position 1
monday_of_1969 :
    play (weekly 0 (pos 0 ∷ pos 3 ∷ []) (pos 1 ∷ [])) (of 1 5 ∷ [])
    ≡ Ok (told Stop.More (at State.Running 1 1 1) 1 1 (345600 ∷ []) ∷ [])
unfolding play play_from runs after walk at_candidate counted move_on leap new_year days_before_month
monday_of_1969 = refl

-- and 1 January is position 2
thursday_is_second :
    play (weekly 0 (pos 0 ∷ pos 3 ∷ []) (pos 2 ∷ [])) (of 1 5 ∷ [])
    ≡ Ok (told Stop.More (at State.Running 0 1 1) 0 1 (0 ∷ []) ∷ [])
unfolding play play_from runs after walk at_candidate counted move_on leap new_year days_before_month
thursday_is_second = refl

-- a week that begins in 1969 counts as beginning in range
thursday_alone :
    play (weekly 0 (pos 3 ∷ []) []) (of 1 5 ∷ [])
    ≡ Ok (told Stop.More (at State.Running 0 1 1) 0 1 (0 ∷ []) ∷ [])
unfolding play play_from runs after walk at_candidate counted move_on leap new_year days_before_month
thursday_alone = refl

-- a day of 1969 is no instant: Monday 5 January is the first
monday_not_as_instant_0 :
    play (weekly 0 (pos 0 ∷ []) []) (of 1 5 ∷ [])
    ≡ Ok (told Stop.More (at State.Running 1 1 1) 1 1 (345600 ∷ []) ∷ [])
unfolding play play_from runs after walk at_candidate counted move_on leap new_year days_before_month
monday_not_as_instant_0 = refl

-- the fourth day of the week, with each week start
fourth_day_from_monday :
    play (weekly_by 1 None 0 0 [] (pos 0 ∷ pos 1 ∷ pos 2 ∷ pos 3 ∷ pos 4 ∷ pos 5 ∷ pos 6 ∷ []) (pos 4 ∷ [])) (of 1 5 ∷ [])
    ≡ Ok (told Stop.More (at State.Running 0 1 1) 0 1 (0 ∷ []) ∷ [])
unfolding play play_from runs after walk at_candidate counted move_on leap new_year days_before_month
fourth_day_from_monday = refl

fourth_day_from_tuesday :
    play (weekly_by 1 None 1 0 [] (pos 0 ∷ pos 1 ∷ pos 2 ∷ pos 3 ∷ pos 4 ∷ pos 5 ∷ pos 6 ∷ []) (pos 4 ∷ [])) (of 1 5 ∷ [])
    ≡ Ok (told Stop.More (at State.Running 0 1 1) 0 1 (86400 ∷ []) ∷ [])
unfolding play play_from runs after walk at_candidate counted move_on leap new_year days_before_month
fourth_day_from_tuesday = refl

fourth_day_from_wednesday :
    play (weekly_by 1 None 2 0 [] (pos 0 ∷ pos 1 ∷ pos 2 ∷ pos 3 ∷ pos 4 ∷ pos 5 ∷ pos 6 ∷ []) (pos 4 ∷ [])) (of 1 5 ∷ [])
    ≡ Ok (told Stop.More (at State.Running 0 1 1) 0 1 (172800 ∷ []) ∷ [])
unfolding play play_from runs after walk at_candidate counted move_on leap new_year days_before_month
fourth_day_from_wednesday = refl

fourth_day_from_thursday :
    play (weekly_by 1 None 3 0 [] (pos 0 ∷ pos 1 ∷ pos 2 ∷ pos 3 ∷ pos 4 ∷ pos 5 ∷ pos 6 ∷ []) (pos 4 ∷ [])) (of 1 5 ∷ [])
    ≡ Ok (told Stop.More (at State.Running 0 1 1) 0 1 (259200 ∷ []) ∷ [])
unfolding play play_from runs after walk at_candidate counted move_on leap new_year days_before_month
fourth_day_from_thursday = refl

fourth_day_from_friday :
    play (weekly_by 1 None 4 0 [] (pos 0 ∷ pos 1 ∷ pos 2 ∷ pos 3 ∷ pos 4 ∷ pos 5 ∷ pos 6 ∷ []) (pos 4 ∷ [])) (of 1 5 ∷ [])
    ≡ Ok (told Stop.More (at State.Running 1 1 1) 1 1 (345600 ∷ []) ∷ [])
unfolding play play_from runs after walk at_candidate counted move_on leap new_year days_before_month
fourth_day_from_friday = refl

fourth_day_from_saturday :
    play (weekly_by 1 None 5 0 [] (pos 0 ∷ pos 1 ∷ pos 2 ∷ pos 3 ∷ pos 4 ∷ pos 5 ∷ pos 6 ∷ []) (pos 4 ∷ [])) (of 1 5 ∷ [])
    ≡ Ok (told Stop.More (at State.Running 1 1 1) 1 1 (432000 ∷ []) ∷ [])
unfolding play play_from runs after walk at_candidate counted move_on leap new_year days_before_month
fourth_day_from_saturday = refl

fourth_day_from_sunday :
    play (weekly_by 1 None 6 0 [] (pos 0 ∷ pos 1 ∷ pos 2 ∷ pos 3 ∷ pos 4 ∷ pos 5 ∷ pos 6 ∷ []) (pos 4 ∷ [])) (of 1 5 ∷ [])
    ≡ Ok (told Stop.More (at State.Running 1 1 1) 1 1 (518400 ∷ []) ∷ [])
unfolding play play_from runs after walk at_candidate counted move_on leap new_year days_before_month
fourth_day_from_sunday = refl

-- BYMONTH=12 has three days in week period 0: place 3 is well formed, place 4 is 21
december_days :
    play_from (at State.Running 0 3 0) (weekly_by 1 None 0 0 (pos 12 ∷ []) (pos 0 ∷ pos 1 ∷ pos 2 ∷ pos 3 ∷ pos 4 ∷ pos 5 ∷ pos 6 ∷ []) []) (of 1 0 ∷ [])
    ≡ Ok (told Stop.Limited (at State.Running 0 3 0) 0 0 (100 ∷ []) ∷ [])
unfolding play play_from runs after walk at_candidate counted move_on leap new_year days_before_month
december_days = refl

december_days_no_more :
    play_from (at State.Running 0 4 0) (weekly_by 1 None 0 0 (pos 12 ∷ []) (pos 0 ∷ pos 1 ∷ pos 2 ∷ pos 3 ∷ pos 4 ∷ pos 5 ∷ pos 6 ∷ []) []) (of 1 0 ∷ [])
    ≡ Ok (told (Stop.Refused Fault.Cursor) (at State.Running 0 4 0) 0 0 (100 ∷ []) ∷ [])
unfolding play play_from runs after walk at_candidate counted move_on leap new_year days_before_month
december_days_no_more = refl

-- where the next lies in 1969 none can have been handed out
next_in_1969 :
    play_from (at State.Running 0 0 0) (weekly 0 (pos 0 ∷ pos 3 ∷ []) (pos 1 ∷ [])) (of 0 0 ∷ [])
    ≡ Ok (told Stop.More (at State.Running 0 0 0) 0 0 [] ∷ [])
unfolding play play_from runs after walk at_candidate counted move_on leap new_year days_before_month
next_in_1969 = refl

next_in_1969_no_more :
    play_from (at State.Running 0 0 1) (weekly 0 (pos 0 ∷ pos 3 ∷ []) (pos 1 ∷ [])) (of 0 0 ∷ [])
    ≡ Ok (told (Stop.Refused Fault.Cursor) (at State.Running 0 0 1) 0 0 [] ∷ [])
unfolding play play_from runs after walk at_candidate counted move_on leap new_year days_before_month
next_in_1969_no_more = refl

-- by the week's end a second each can have been
by_the_end_of_the_week :
    play_from (at State.Running 0 1 345600) (weekly 0 (pos 0 ∷ pos 3 ∷ []) (pos 1 ∷ [])) (of 1 0 ∷ [])
    ≡ Ok (told Stop.Limited (at State.Running 0 1 345600) 0 0 (100 ∷ []) ∷ [])
unfolding play play_from runs after walk at_candidate counted move_on leap new_year days_before_month
by_the_end_of_the_week = refl

by_the_end_of_the_week_no_more :
    play_from (at State.Running 0 1 345601) (weekly 0 (pos 0 ∷ pos 3 ∷ []) (pos 1 ∷ [])) (of 1 0 ∷ [])
    ≡ Ok (told (Stop.Refused Fault.Cursor) (at State.Running 0 1 345601) 0 0 (100 ∷ []) ∷ [])
unfolding play play_from runs after walk at_candidate counted move_on leap new_year days_before_month
by_the_end_of_the_week_no_more = refl

-- ---- the last week of 9999, from Monday 27 December, cut after Friday 31

-- from Wednesday 29: position 1 is Monday, so there is none
last_monday :
    play (weekly 253402041600 (pos 0 ∷ pos 4 ∷ []) (pos 1 ∷ [])) (of 1 5 ∷ [])
    ≡ Ok (told Stop.Ended (at (State.Ended Cause.Range) 0 1 0) 0 0 (100 ∷ []) ∷ [])
unfolding play play_from runs after walk at_candidate counted move_on leap new_year days_before_month
last_monday = refl

-- position -1 is Friday
last_friday :
    play (weekly 253402041600 (pos 0 ∷ pos 4 ∷ []) (negsuc 0 ∷ [])) (of 2 5 ∷ [])
    ≡ Ok (told Stop.Ended (at (State.Ended Cause.Range) 0 1 1) 0 1 (253402214400 ∷ 101 ∷ []) ∷ [])
unfolding play play_from runs after walk at_candidate counted move_on leap new_year days_before_month
last_friday = refl

-- Saturday is cut off
no_last_saturday :
    play (weekly 253402214400 (pos 4 ∷ pos 5 ∷ []) (negsuc 0 ∷ [])) (of 2 5 ∷ [])
    ≡ Ok (told Stop.Ended (at (State.Ended Cause.Range) 0 1 1) 0 1 (253402214400 ∷ 101 ∷ []) ∷ [])
unfolding play play_from runs after walk at_candidate counted move_on leap new_year days_before_month
no_last_saturday = refl
