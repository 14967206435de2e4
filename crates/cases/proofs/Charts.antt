-- The charts of document 01, starred and not.
-- Assumes nothing.
use Rattle.std.specs.Prelude.{Some, None, Ok, Err}
use mathlib.Core.Path.{◌≡◌, refl}
use mathlib.Core.List.{[], ◌∷◌}
use lib.IntN.{pos, negsuc}
use Rattle.machine.specs.declared.Cause.{Cause}
use Rattle.machine.specs.declared.State.{State}
use Rattle.machine.specs.declared.Stop.{Stop}
use Rattle.calendar.specs.Calendar.{leap, new_year, days_before_month}
use Rattle.machine.specs.Compute.{runs, after, walk}
use Rattle.machine.specs.Run.{at_candidate, counted, move_on}
use Rattle.rule.specs.declared.rrule.Refusal.{Refusal}
use Rattle.rule.specs.Raw.{raw, raw_lists}
use Rattle.cases.specs.Play.{of, at, told, play, play_from}

-- DAILY;COUNT=3 from 2024-02-28 05:00, four slots, m = 9
chart_1 :
    play (raw 3 1 (Some 3) None 0 1709096400 (raw_lists [] [] [] [] [] [] [] [] [] [])) (of 4 9 ∷ [])
    ≡ Ok (told Stop.Ended (at (State.Ended Cause.Count) 2 1 3) 2 3 (1709096400 ∷ 1709182800 ∷ 1709269200 ∷ 103 ∷ []) ∷ [])
unfolding play play_from runs after walk at_candidate counted move_on leap new_year days_before_month
chart_1 = refl

-- MONTHLY;COUNT=3 from 2024-01-31 05:00
chart_2 :
    play (raw 1 1 (Some 3) None 0 1706677200 (raw_lists [] [] [] [] [] [] [] [] [] [])) (of 4 1000 ∷ [])
    ≡ Ok (told Stop.Ended (at (State.Ended Cause.Count) 4 1 3) 4 3 (1706677200 ∷ 1711861200 ∷ 1717131600 ∷ 103 ∷ []) ∷ [])
unfolding play play_from runs after walk at_candidate counted move_on leap new_year days_before_month
chart_2 = refl

-- YEARLY;COUNT=2 from 2024-02-29
chart_3 :
    play (raw 0 1 (Some 2) None 0 1709164800 (raw_lists [] [] [] [] [] [] [] [] [] [])) (of 4 1000 ∷ [])
    ≡ Ok (told Stop.Ended (at (State.Ended Cause.Count) 4 1 2) 4 2 (1709164800 ∷ 1835395200 ∷ 102 ∷ 103 ∷ []) ∷ [])
unfolding play play_from runs after walk at_candidate counted move_on leap new_year days_before_month
chart_3 = refl

-- WEEKLY;BYDAY=MO,FR;BYSETPOS=1;COUNT=2 from 2024-01-03
chart_4 :
    play (raw 2 1 (Some 2) None 0 1704240000 (raw_lists [] [] [] [] (pos 0 ∷ pos 0 ∷ []) (pos 0 ∷ pos 4 ∷ []) [] [] [] (pos 1 ∷ []))) (of 4 1000 ∷ [])
    ≡ Ok (told Stop.Ended (at (State.Ended Cause.Count) 2 1 2) 2 2 (1704672000 ∷ 1705276800 ∷ 102 ∷ 103 ∷ []) ∷ [])
unfolding play play_from runs after walk at_candidate counted move_on leap new_year days_before_month
chart_4 = refl

-- MONTHLY;BYDAY=5MO;COUNT=2
chart_5a :
    play (raw 1 1 (Some 2) None 0 1704067200 (raw_lists [] [] [] [] (pos 5 ∷ []) (pos 0 ∷ []) [] [] [] [])) (of 4 1000 ∷ [])
    ≡ Ok (told Stop.Ended (at (State.Ended Cause.Count) 3 1 2) 3 2 (1706486400 ∷ 1714348800 ∷ 102 ∷ 103 ∷ []) ∷ [])
unfolding play play_from runs after walk at_candidate counted move_on leap new_year days_before_month
chart_5a = refl

-- MONTHLY;BYDAY=-1FR;COUNT=2
chart_5b :
    play (raw 1 1 (Some 2) None 0 1704067200 (raw_lists [] [] [] [] (negsuc 0 ∷ []) (pos 4 ∷ []) [] [] [] [])) (of 4 1000 ∷ [])
    ≡ Ok (told Stop.Ended (at (State.Ended Cause.Count) 1 1 2) 1 2 (1706227200 ∷ 1708646400 ∷ 102 ∷ 103 ∷ []) ∷ [])
unfolding play play_from runs after walk at_candidate counted move_on leap new_year days_before_month
chart_5b = refl

-- YEARLY;BYWEEKNO=52;COUNT=3 from 2022-01-01
chart_6a :
    play (raw 0 1 (Some 3) None 0 1640995200 (raw_lists [] [] [] (pos 52 ∷ []) [] [] [] [] [] [])) (of 4 1000 ∷ [])
    ≡ Ok (told Stop.Ended (at (State.Ended Cause.Count) 0 3 3) 0 3 (1640995200 ∷ 1641081600 ∷ 1672012800 ∷ 103 ∷ []) ∷ [])
unfolding play play_from runs after walk at_candidate counted move_on leap new_year days_before_month
chart_6a = refl

-- YEARLY;BYWEEKNO=53 first gives 2026-12-28
chart_6b :
    play (raw 0 1 (Some 1) None 0 1640995200 (raw_lists [] [] [] (pos 53 ∷ []) [] [] [] [] [] [])) (of 4 1000 ∷ [])
    ≡ Ok (told Stop.Ended (at (State.Ended Cause.Count) 4 1 1) 4 1 (1798416000 ∷ 101 ∷ 102 ∷ 103 ∷ []) ∷ [])
unfolding play play_from runs after walk at_candidate counted move_on leap new_year days_before_month
chart_6b = refl

-- YEARLY;BYWEEKNO=-52;COUNT=9
chart_7 :
    play (raw 0 1 (Some 9) None 0 1704067200 (raw_lists [] [] [] (negsuc 51 ∷ []) [] [] [] [] [] [])) (of 10 9 ∷ [])
    ≡ Ok (told Stop.Ended (at (State.Ended Cause.Count) 0 9 9) 0 9 (1704067200 ∷ 1704153600 ∷ 1704240000 ∷ 1704326400 ∷ 1704412800 ∷ 1704499200 ∷ 1704585600 ∷ 1735516800 ∷ 1735603200 ∷ 109 ∷ []) ∷ [])
unfolding play play_from runs after walk at_candidate counted move_on leap new_year days_before_month
chart_7 = refl

-- MINUTELY;INTERVAL=90;BYHOUR=3;COUNT=2
chart_8 :
    play (raw 5 90 (Some 2) None 0 1704067200 (raw_lists [] [] [] [] [] [] (pos 3 ∷ []) [] [] [])) (of 4 1000 ∷ [])
    ≡ Ok (told Stop.Ended (at (State.Ended Cause.Count) 18 1 2) 2 2 (1704078000 ∷ 1704164400 ∷ 102 ∷ 103 ∷ []) ∷ [])
unfolding play play_from runs after walk at_candidate counted move_on leap new_year days_before_month
chart_8 = refl

-- HOURLY;INTERVAL=2;BYHOUR=3 from 00:00: NoTick, 0 moves
chart_9 :
    play (raw 4 2 None None 0 1704067200 (raw_lists [] [] [] [] [] [] (pos 3 ∷ []) [] [] [])) (of 4 1000 ∷ [])
    ≡ Ok (told Stop.Ended (at (State.Ended Cause.NoTick) 0 0 0) 0 0 (100 ∷ 101 ∷ 102 ∷ 103 ∷ []) ∷ [])
unfolding play play_from runs after walk at_candidate counted move_on leap new_year days_before_month
chart_9 = refl

-- SECONDLY;BYMONTH=2;COUNT=1, m = 30, then m = 1
chart_10 :
    play (raw 6 1 (Some 1) None 0 1704067200 (raw_lists (pos 2 ∷ []) [] [] [] [] [] [] [] [] [])) (of 2 30 ∷ of 2 1 ∷ [])
    ≡ Ok (told Stop.Limited (at State.Running 2592000 0 0) 30 0 (100 ∷ 101 ∷ []) ∷ told Stop.Ended (at (State.Ended Cause.Count) 2678400 1 1) 1 1 (1706745600 ∷ 101 ∷ []) ∷ [])
unfolding play play_from runs after walk at_candidate counted move_on leap new_year days_before_month
chart_10 = refl

-- DAILY;UNTIL=2024-01-02 05:00 from 2024-01-01 05:00
chart_11a :
    play (raw 3 1 None (Some 1704171600) 0 1704085200 (raw_lists [] [] [] [] [] [] [] [] [] [])) (of 4 1000 ∷ [])
    ≡ Ok (told Stop.Ended (at (State.Ended Cause.Until) 2 0 2) 2 2 (1704085200 ∷ 1704171600 ∷ 102 ∷ 103 ∷ []) ∷ [])
unfolding play play_from runs after walk at_candidate counted move_on leap new_year days_before_month
chart_11a = refl

-- UNTIL a second less
chart_11b :
    play (raw 3 1 None (Some 1704171599) 0 1704085200 (raw_lists [] [] [] [] [] [] [] [] [] [])) (of 4 1000 ∷ [])
    ≡ Ok (told Stop.Ended (at (State.Ended Cause.Until) 1 0 1) 1 1 (1704085200 ∷ 101 ∷ 102 ∷ 103 ∷ []) ∷ [])
unfolding play play_from runs after walk at_candidate counted move_on leap new_year days_before_month
chart_11b = refl

-- DAILY from 253402214400: one, then Range
chart_12a :
    play (raw 3 1 None None 0 253402214400 (raw_lists [] [] [] [] [] [] [] [] [] [])) (of 4 1000 ∷ [])
    ≡ Ok (told Stop.Ended (at (State.Ended Cause.Range) 0 1 1) 0 1 (253402214400 ∷ 101 ∷ 102 ∷ 103 ∷ []) ∷ [])
unfolding play play_from runs after walk at_candidate counted move_on leap new_year days_before_month
chart_12a = refl

-- start 253402300800: refusal 3
chart_12b :
    play (raw 3 1 None None 0 253402300800 (raw_lists [] [] [] [] [] [] [] [] [] [])) (of 4 1000 ∷ [])
    ≡ Err Refusal.StartOut
unfolding play play_from runs after walk at_candidate counted move_on leap new_year days_before_month
chart_12b = refl

-- BYHOUR=8,8: 6
chart_13a :
    play (raw 3 1 None None 0 1704067200 (raw_lists [] [] [] [] [] [] (pos 8 ∷ pos 8 ∷ []) [] [] [])) (of 4 1000 ∷ [])
    ≡ Err Refusal.NotRising
unfolding play play_from runs after walk at_candidate counted move_on leap new_year days_before_month
chart_13a = refl

-- BYHOUR=9,8: 6
chart_13b :
    play (raw 3 1 None None 0 1704067200 (raw_lists [] [] [] [] [] [] (pos 9 ∷ pos 8 ∷ []) [] [] [])) (of 4 1000 ∷ [])
    ≡ Err Refusal.NotRising
unfolding play play_from runs after walk at_candidate counted move_on leap new_year days_before_month
chart_13b = refl

-- BYHOUR=24,8: 5
chart_13c :
    play (raw 3 1 None None 0 1704067200 (raw_lists [] [] [] [] [] [] (pos 24 ∷ pos 8 ∷ []) [] [] [])) (of 4 1000 ∷ [])
    ≡ Err Refusal.EntryOut
unfolding play play_from runs after walk at_candidate counted move_on leap new_year days_before_month
chart_13c = refl

-- BYDAY=MO,2TU: 7
chart_13d :
    play (raw 3 1 None None 0 1704067200 (raw_lists [] [] [] [] (pos 0 ∷ pos 2 ∷ []) (pos 0 ∷ pos 1 ∷ []) [] [] [] [])) (of 4 1000 ∷ [])
    ≡ Err Refusal.MixedDays
unfolding play play_from runs after walk at_candidate counted move_on leap new_year days_before_month
chart_13d = refl

-- a buffer of no length on a running cursor: More
chart_13e :
    play (raw 3 1 None None 0 1704067200 (raw_lists [] [] [] [] [] [] [] [] [] [])) (of 0 5 ∷ of 0 0 ∷ [])
    ≡ Ok (told Stop.More (at State.Running 0 0 0) 0 0 ([]) ∷ told Stop.More (at State.Running 0 0 0) 0 0 ([]) ∷ [])
unfolding play play_from runs after walk at_candidate counted move_on leap new_year days_before_month
chart_13e = refl
