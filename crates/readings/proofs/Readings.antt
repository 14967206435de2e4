-- The cases that the readings of document 01 give.
-- Assumes nothing.
use Rattle.std.specs.Prelude.{Some, None, Ok, Err}
use mathlib.Core.Path.{◌≡◌, refl}
use mathlib.Core.List.{[], ◌∷◌}
use lib.IntN.{pos, negsuc}
use Rattle.machine.specs.declared.Cause.{Cause}
use Rattle.machine.specs.declared.State.{State}
use Rattle.machine.specs.declared.Fault.{Fault}
use Rattle.machine.specs.declared.Stop.{Stop}
use Rattle.calendar.specs.Calendar.{leap, new_year, days_before_month}
use Rattle.machine.specs.Compute.{runs, after, walk}
use Rattle.machine.specs.Run.{at_candidate, counted, move_on}
use Rattle.rule.specs.declared.rrule.Refusal.{Refusal}
use Rattle.rule.specs.Raw.{raw, raw_lists}
use Rattle.cases.specs.Play.{of, at, told, play, play_from}

-- reading 9: WEEKLY;INTERVAL=2;BYDAY=MO from Wed 2024-01-03
reading_9a :
    play (raw 2 2 None None 0 1704240000 (raw_lists [] [] [] [] (pos 0 ∷ []) (pos 0 ∷ []) [] [] [] [])) (of 2 5 ∷ [])
    ≡ Ok (told Stop.More (at State.Running 2 1 2) 2 2 (1705276800 ∷ 1706486400 ∷ []) ∷ [])
unfolding play play_from runs after walk at_candidate counted move_on leap new_year days_before_month
reading_9a = refl

-- reading 9: a candidate of the start's own day before the start counts for BYSETPOS
reading_9b :
    play (raw 2 1 None None 0 1704261600 (raw_lists [] [] [] [] (pos 0 ∷ []) (pos 2 ∷ []) (pos 0 ∷ pos 12 ∷ []) [] [] (pos 1 ∷ []))) (of 2 5 ∷ [])
    ≡ Ok (told Stop.More (at State.Running 2 1 2) 2 2 (1704844800 ∷ 1705449600 ∷ []) ∷ [])
unfolding play play_from runs after walk at_candidate counted move_on leap new_year days_before_month
reading_9b = refl

-- reading 9: candidates before the start count for BYSETPOS and for the place
reading_9c :
    play (raw 1 1 None None 0 1705276800 (raw_lists [] (pos 1 ∷ pos 20 ∷ []) [] [] [] [] [] [] [] (pos 1 ∷ []))) (of 2 5 ∷ of 0 0 ∷ [])
    ≡ Ok (told Stop.More (at State.Running 2 1 2) 2 2 (1706745600 ∷ 1709251200 ∷ []) ∷ told Stop.More (at State.Running 2 1 2) 0 0 ([]) ∷ [])
unfolding play play_from runs after walk at_candidate counted move_on leap new_year days_before_month
reading_9c = refl

-- reading 11, cut: UNTIL never shortens the walk
reading_11a :
    play (raw 0 1 None (Some 1704153600) 0 1704067200 (raw_lists (pos 2 ∷ []) (pos 30 ∷ []) [] [] [] [] [] [] [] [])) (of 1 3 ∷ of 1 2 ∷ [])
    ≡ Ok (told Stop.Limited (at State.Running 3 0 0) 3 0 (100 ∷ []) ∷ told Stop.Limited (at State.Running 5 0 0) 2 0 (100 ∷ []) ∷ [])
unfolding play play_from runs after walk at_candidate counted move_on leap new_year days_before_month
reading_11a = refl

-- reading 11 with INTERVAL 4000: ends by Range
reading_11b :
    play (raw 0 4000 None (Some 1704153600) 0 1704067200 (raw_lists (pos 2 ∷ []) (pos 30 ∷ []) [] [] [] [] [] [] [] [])) (of 1 3 ∷ [])
    ≡ Ok (told Stop.Ended (at (State.Ended Cause.Range) 1 0 0) 1 0 (100 ∷ []) ∷ [])
unfolding play play_from runs after walk at_candidate counted move_on leap new_year days_before_month
reading_11b = refl

-- reading 11: a candidate above UNTIL ends the run, and is not passed
reading_11c :
    play (raw 0 1 None (Some 1669507200) 0 1704067200 (raw_lists (pos 1 ∷ []) (pos 1 ∷ []) [] [] [] [] (pos 0 ∷ []) [] [] [])) (of 1 3 ∷ [])
    ≡ Ok (told Stop.Ended (at (State.Ended Cause.Until) 0 0 0) 0 0 (100 ∷ []) ∷ [])
unfolding play play_from runs after walk at_candidate counted move_on leap new_year days_before_month
reading_11c = refl

-- reading 11: even before the start
reading_11d :
    play (raw 1 1 None (Some 1685577600) 0 1705276800 (raw_lists [] (pos 1 ∷ pos 20 ∷ []) [] [] [] [] [] [] [] [])) (of 1 3 ∷ [])
    ≡ Ok (told Stop.Ended (at (State.Ended Cause.Until) 0 0 0) 0 0 (100 ∷ []) ∷ [])
unfolding play play_from runs after walk at_candidate counted move_on leap new_year days_before_month
reading_11d = refl

-- reading 11: the one that reaches COUNT is passed; the buffer is full, and the stop is Ended
reading_11e :
    play (raw 3 1 (Some 2) None 0 1704067200 (raw_lists [] [] [] [] [] [] [] [] [] [])) (of 2 5 ∷ of 0 0 ∷ [])
    ≡ Ok (told Stop.Ended (at (State.Ended Cause.Count) 1 1 2) 1 2 (1704067200 ∷ 1704153600 ∷ []) ∷ told Stop.Ended (at (State.Ended Cause.Count) 1 1 2) 0 0 ([]) ∷ [])
unfolding play play_from runs after walk at_candidate counted move_on leap new_year days_before_month
reading_11e = refl

-- reading 12: m = 0 Limited, m = 1 NoTick
reading_12a :
    play (raw 4 2 None None 0 1704067200 (raw_lists [] [] [] [] [] [] (pos 3 ∷ []) [] [] [])) (of 1 0 ∷ of 1 1 ∷ [])
    ≡ Ok (told Stop.Limited (at State.Running 0 0 0) 0 0 (100 ∷ []) ∷ told Stop.Ended (at (State.Ended Cause.NoTick) 0 0 0) 0 0 (100 ∷ []) ∷ [])
unfolding play play_from runs after walk at_candidate counted move_on leap new_year days_before_month
reading_12a = refl

-- reading 12: a full buffer stops before candidates earlier than the start; passing those costs no move
reading_12b :
    play (raw 1 1 None None 0 1705276800 (raw_lists [] (pos 1 ∷ pos 20 ∷ []) [] [] [] [] [] [] [] [])) (of 0 5 ∷ of 1 0 ∷ [])
    ≡ Ok (told Stop.More (at State.Running 0 0 0) 0 0 ([]) ∷ told Stop.More (at State.Running 0 2 1) 0 1 (1705708800 ∷ []) ∷ [])
unfolding play play_from runs after walk at_candidate counted move_on leap new_year days_before_month
reading_12b = refl

-- reading 13: a k whose tick doesn't pass
reading_13a :
    play_from (at State.Running 1 0 0) (raw 4 1 None None 0 1704067200 (raw_lists [] [] [] [] [] [] (pos 3 ∷ []) [] [] [])) (of 1 5 ∷ [])
    ≡ Ok (told Stop.More (at State.Running 3 1 1) 1 1 (1704078000 ∷ []) ∷ [])
unfolding play play_from runs after walk at_candidate counted move_on leap new_year days_before_month
reading_13a = refl

-- reading 13: k times INTERVAL without wrap-around: 21
reading_13b :
    play_from (at State.Running 18446744073709551615 0 0) (raw 6 65535 None None 0 1704067200 (raw_lists [] [] [] [] [] [] (pos 3 ∷ []) [] [] [])) (of 1 0 ∷ [])
    ≡ Ok (told (Stop.Refused Fault.Cursor) (at State.Running 18446744073709551615 0 0) 0 0 (100 ∷ []) ∷ [])
unfolding play play_from runs after walk at_candidate counted move_on leap new_year days_before_month
reading_13b = refl

-- reading 13: handed equal to next - start
reading_13c :
    play_from (at State.Running 1 0 86400) (raw 3 1 None None 0 1704067200 (raw_lists [] [] [] [] [] [] [] [] [] [])) (of 1 0 ∷ [])
    ≡ Ok (told Stop.More (at State.Running 1 1 86401) 0 1 (1704153600 ∷ []) ∷ [])
unfolding play play_from runs after walk at_candidate counted move_on leap new_year days_before_month
reading_13c = refl

-- reading 13: one more is 21
reading_13d :
    play_from (at State.Running 1 0 86401) (raw 3 1 None None 0 1704067200 (raw_lists [] [] [] [] [] [] [] [] [] [])) (of 1 0 ∷ [])
    ≡ Ok (told (Stop.Refused Fault.Cursor) (at State.Running 1 0 86401) 0 0 (100 ∷ []) ∷ [])
unfolding play play_from runs after walk at_candidate counted move_on leap new_year days_before_month
reading_13d = refl

-- none remains: the first second after period k
reading_13e :
    play_from (at State.Running 1 1 172800) (raw 3 1 None None 0 1704067200 (raw_lists [] [] [] [] [] [] [] [] [] [])) (of 1 0 ∷ [])
    ≡ Ok (told Stop.Limited (at State.Running 1 1 172800) 0 0 (100 ∷ []) ∷ [])
unfolding play play_from runs after walk at_candidate counted move_on leap new_year days_before_month
reading_13e = refl

-- one more is 21
reading_13f :
    play_from (at State.Running 1 1 172801) (raw 3 1 None None 0 1704067200 (raw_lists [] [] [] [] [] [] [] [] [] [])) (of 1 0 ∷ [])
    ≡ Ok (told (Stop.Refused Fault.Cursor) (at State.Running 1 1 172801) 0 0 (100 ∷ []) ∷ [])
unfolding play play_from runs after walk at_candidate counted move_on leap new_year days_before_month
reading_13f = refl

-- place above the kept candidates: 21
reading_13g :
    play_from (at State.Running 1 2 0) (raw 3 1 None None 0 1704067200 (raw_lists [] [] [] [] [] [] [] [] [] [])) (of 1 0 ∷ [])
    ≡ Ok (told (Stop.Refused Fault.Cursor) (at State.Running 1 2 0) 0 0 (100 ∷ []) ∷ [])
unfolding play play_from runs after walk at_candidate counted move_on leap new_year days_before_month
reading_13g = refl

-- handed below COUNT
reading_13h :
    play_from (at State.Running 1 0 4) (raw 3 1 (Some 5) None 0 1704067200 (raw_lists [] [] [] [] [] [] [] [] [] [])) (of 1 0 ∷ [])
    ≡ Ok (told Stop.Ended (at (State.Ended Cause.Count) 1 1 5) 0 1 (1704153600 ∷ []) ∷ [])
unfolding play play_from runs after walk at_candidate counted move_on leap new_year days_before_month
reading_13h = refl

-- handed at COUNT: 21
reading_13i :
    play_from (at State.Running 1 0 5) (raw 3 1 (Some 5) None 0 1704067200 (raw_lists [] [] [] [] [] [] [] [] [] [])) (of 1 0 ∷ [])
    ≡ Ok (told (Stop.Refused Fault.Cursor) (at State.Running 1 0 5) 0 0 (100 ∷ []) ∷ [])
unfolding play play_from runs after walk at_candidate counted move_on leap new_year days_before_month
reading_13i = refl

-- UNTIL plays no part in well formed
reading_13j :
    play_from (at State.Running 9 0 4) (raw 3 1 None (Some 1704067200) 0 1704067200 (raw_lists [] [] [] [] [] [] [] [] [] [])) (of 1 0 ∷ [])
    ≡ Ok (told Stop.Ended (at (State.Ended Cause.Until) 9 0 4) 0 0 (100 ∷ []) ∷ [])
unfolding play play_from runs after walk at_candidate counted move_on leap new_year days_before_month
reading_13j = refl

-- with COUNT beside it: 11
reading_13j_with_count :
    play (raw 3 1 (Some 5) (Some 1704067200) 0 1704067200 (raw_lists [] [] [] [] [] [] [] [] [] [])) ([])
    ≡ Err Refusal.CountAndUntil
unfolding play play_from runs after walk at_candidate counted move_on leap new_year days_before_month
reading_13j_with_count = refl

-- next before the start: 0 is allowed
reading_13k :
    play_from (at State.Running 0 0 0) (raw 1 1 None None 0 1705276800 (raw_lists [] (pos 1 ∷ pos 20 ∷ []) [] [] [] [] [] [] [] [])) (of 1 0 ∷ [])
    ≡ Ok (told Stop.More (at State.Running 0 2 1) 0 1 (1705708800 ∷ []) ∷ [])
unfolding play play_from runs after walk at_candidate counted move_on leap new_year days_before_month
reading_13k = refl

-- next before the start: 1 is not
reading_13l :
    play_from (at State.Running 0 0 1) (raw 1 1 None None 0 1705276800 (raw_lists [] (pos 1 ∷ pos 20 ∷ []) [] [] [] [] [] [] [] [])) (of 1 0 ∷ [])
    ≡ Ok (told (Stop.Refused Fault.Cursor) (at State.Running 0 0 1) 0 0 (100 ∷ []) ∷ [])
unfolding play play_from runs after walk at_candidate counted move_on leap new_year days_before_month
reading_13l = refl

-- a running cursor on INTERVAL 0: the check refuses the rule, 10
reading_13m :
    play_from (at State.Running 0 0 0) (raw 3 0 None None 0 1704067200 (raw_lists [] [] [] [] [] [] [] [] [] [])) ([])
    ≡ Err Refusal.Nought
unfolding play play_from runs after walk at_candidate counted move_on leap new_year days_before_month
reading_13m = refl

-- INTERVAL 0, fresh: 10
reading_13n :
    play (raw 3 0 None None 0 1704067200 (raw_lists [] [] [] [] [] [] [] [] [] [])) ([])
    ≡ Err Refusal.Nought
unfolding play play_from runs after walk at_candidate counted move_on leap new_year days_before_month
reading_13n = refl

-- COUNT 0 and INTERVAL 0: 10
reading_13o :
    play (raw 3 0 (Some 0) None 0 1704067200 (raw_lists [] [] [] [] [] [] [] [] [] [])) ([])
    ≡ Err Refusal.Nought
unfolding play play_from runs after walk at_candidate counted move_on leap new_year days_before_month
reading_13o = refl

-- an ended cursor comes back bit for bit
reading_13p :
    play_from (at (State.Ended Cause.NoTick) 18446744073709551615 4294967295 18446744073709551615) (raw 3 1 None None 0 1704067200 (raw_lists [] [] [] [] [] [] [] [] [] [])) (of 2 5 ∷ [])
    ≡ Ok (told Stop.Ended (at (State.Ended Cause.NoTick) 18446744073709551615 4294967295 18446744073709551615) 0 0 (100 ∷ 101 ∷ []) ∷ [])
unfolding play play_from runs after walk at_candidate counted move_on leap new_year days_before_month
reading_13p = refl

-- period 1 begins at 253402300800: 21
reading_13q :
    play_from (at State.Running 1 0 0) (raw 3 1 None None 0 253402214400 (raw_lists [] [] [] [] [] [] [] [] [] [])) (of 1 5 ∷ [])
    ≡ Ok (told (Stop.Refused Fault.Cursor) (at State.Running 1 0 0) 0 0 (100 ∷ []) ∷ [])
unfolding play play_from runs after walk at_candidate counted move_on leap new_year days_before_month
reading_13q = refl

-- reading 10: the first second after the cut week is 253402300800
reading_13r :
    play_from (at State.Running 0 1 86400)
    (raw 2 1 None None 0 253402214400 (raw_lists [] [] [] [] (pos 0 ∷ []) (pos 0 ∷ []) [] [] [] [])) (of 1 5 ∷ [])
    ≡ Ok (told Stop.Ended (at (State.Ended Cause.Range) 0 1 86400) 0 0 (100 ∷ []) ∷ [])
unfolding play play_from runs after walk at_candidate counted move_on leap new_year days_before_month
reading_13r = refl

-- one more is 21
reading_13s :
    play_from (at State.Running 0 1 86401)
    (raw 2 1 None None 0 253402214400 (raw_lists [] [] [] [] (pos 0 ∷ []) (pos 0 ∷ []) [] [] [] [])) (of 1 5 ∷ [])
    ≡ Ok (told (Stop.Refused Fault.Cursor) (at State.Running 0 1 86401) 0 0 (100 ∷ []) ∷ [])
unfolding play play_from runs after walk at_candidate counted move_on leap new_year days_before_month
reading_13s = refl

-- reading 14: NoTick before Range
reading_14a :
    play (raw 4 2 None None 0 253402293600 (raw_lists [] [] [] [] [] [] (pos 3 ∷ []) [] [] [])) (of 1 5 ∷ [])
    ≡ Ok (told Stop.Ended (at (State.Ended Cause.NoTick) 0 0 0) 0 0 (100 ∷ []) ∷ [])
unfolding play play_from runs after walk at_candidate counted move_on leap new_year days_before_month
reading_14a = refl

-- reading 14: Range
reading_14b :
    play (raw 4 1 None None 0 253402293600 (raw_lists [] [] [] [] [] [] (pos 3 ∷ []) [] [] [])) (of 1 5 ∷ [])
    ≡ Ok (told Stop.Ended (at (State.Ended Cause.Range) 0 0 0) 0 0 (100 ∷ []) ∷ [])
unfolding play play_from runs after walk at_candidate counted move_on leap new_year days_before_month
reading_14b = refl

-- from a day that doesn't pass to a later date
reading_14c :
    play (raw 4 1 None None 0 1704067200 (raw_lists [] (pos 2 ∷ []) [] [] [] [] (pos 5 ∷ []) [] [] [])) (of 1 5 ∷ [])
    ≡ Ok (told Stop.More (at State.Running 29 1 1) 1 1 (1704171600 ∷ []) ∷ [])
unfolding play play_from runs after walk at_candidate counted move_on leap new_year days_before_month
reading_14c = refl

-- from a day that passes; then a day a move
reading_14d :
    play (raw 4 1 None None 0 1704067200 (raw_lists [] (pos 1 ∷ []) [] [] [] [] (pos 5 ∷ []) [] [] [])) (of 2 40 ∷ [])
    ≡ Ok (told Stop.More (at State.Running 749 1 2) 32 2 (1704085200 ∷ 1706763600 ∷ []) ∷ [])
unfolding play play_from runs after walk at_candidate counted move_on leap new_year days_before_month
reading_14d = refl

-- a later date with INTERVAL 5: not the first tick of the date
reading_14e :
    play (raw 4 5 None None 0 1704070800 (raw_lists [] (pos 2 ∷ []) [] [] [] [] (pos 0 ∷ pos 1 ∷ []) [] [] [])) (of 2 3 ∷ [])
    ≡ Ok (told Stop.Limited (at State.Running 43 0 0) 3 0 (100 ∷ 101 ∷ []) ∷ [])
unfolding play play_from runs after walk at_candidate counted move_on leap new_year days_before_month
reading_14e = refl

-- MINUTELY;INTERVAL=7 with hour and minute fixed
reading_14f :
    play (raw 5 7 None None 0 1704067200 (raw_lists (pos 2 ∷ []) [] [] [] [] [] (pos 3 ∷ []) (pos 30 ∷ []) [] [])) (of 1 3 ∷ [])
    ≡ Ok (told Stop.Limited (at State.Running 4350 0 0) 3 0 (100 ∷ []) ∷ [])
unfolding play play_from runs after walk at_candidate counted move_on leap new_year days_before_month
reading_14f = refl

-- INTERVAL above a day
reading_14h :
    play (raw 4 25 None None 0 1704067200 (raw_lists [] [] [] [] [] [] (pos 23 ∷ []) [] [] [])) (of 2 3 ∷ [])
    ≡ Ok (told Stop.More (at State.Running 47 1 2) 2 2 (1706137200 ∷ 1708297200 ∷ []) ∷ [])
unfolding play play_from runs after walk at_candidate counted move_on leap new_year days_before_month
reading_14h = refl

-- INTERVAL 65535
reading_14i :
    play (raw 4 65535 None None 0 1704067200 (raw_lists [] (pos 31 ∷ []) [] [] [] [] (pos 1 ∷ []) [] [] [])) (of 1 4 ∷ [])
    ≡ Ok (told Stop.Ended (at (State.Ended Cause.NoTick) 0 0 0) 0 0 (100 ∷ []) ∷ [])
unfolding play play_from runs after walk at_candidate counted move_on leap new_year days_before_month
reading_14i = refl

-- the day being left doesn't pass, the tick does
reading_14j :
    play_from (at State.Running 3 0 0) (raw 4 1 None None 0 1704067200 (raw_lists [] (pos 2 ∷ []) [] [] [] [] (pos 3 ∷ []) [] [] [])) (of 1 5 ∷ [])
    ≡ Ok (told Stop.More (at State.Running 27 1 1) 1 1 (1704164400 ∷ []) ∷ [])
unfolding play play_from runs after walk at_candidate counted move_on leap new_year days_before_month
reading_14j = refl

-- reading 6: DAILY;BYHOUR=0;BYSETPOS=1
reading_6a :
    play (raw 3 1 None None 0 1704067200 (raw_lists [] [] [] [] [] [] (pos 0 ∷ []) [] [] (pos 1 ∷ []))) (of 1 0 ∷ [])
    ≡ Ok (told Stop.More (at State.Running 0 1 1) 0 1 (1704067200 ∷ []) ∷ [])
unfolding play play_from runs after walk at_candidate counted move_on leap new_year days_before_month
reading_6a = refl

-- reading 6: DAILY;BYSETPOS=1 is 9
reading_6b :
    play (raw 3 1 None None 0 1704067200 (raw_lists [] [] [] [] [] [] [] [] [] (pos 1 ∷ []))) (of 4 1000 ∷ [])
    ≡ Err Refusal.PositionsAlone
unfolding play play_from runs after walk at_candidate counted move_on leap new_year days_before_month
reading_6b = refl

-- reading 7: BYHOUR=9,8 with BYMONTH=13 is 5
reading_7a :
    play (raw 3 1 None None 0 1704067200 (raw_lists (pos 13 ∷ []) [] [] [] [] [] (pos 9 ∷ pos 8 ∷ []) [] [] [])) (of 4 1000 ∷ [])
    ≡ Err Refusal.EntryOut
unfolding play play_from runs after walk at_candidate counted move_on leap new_year days_before_month
reading_7a = refl

-- reading 7: BYMONTHDAY=1,-1 is 6
reading_7b :
    play (raw 3 1 None None 0 1704067200 (raw_lists [] (pos 1 ∷ negsuc 0 ∷ []) [] [] [] [] [] [] [] [])) (of 4 1000 ∷ [])
    ≡ Err Refusal.NotRising
unfolding play play_from runs after walk at_candidate counted move_on leap new_year days_before_month
reading_7b = refl

-- reading 7: WEEKLY;BYDAY=MO,2TU is 7
reading_7c :
    play (raw 2 1 None None 0 1704067200 (raw_lists [] [] [] [] (pos 0 ∷ pos 2 ∷ []) (pos 0 ∷ pos 1 ∷ []) [] [] [] [])) (of 4 1000 ∷ [])
    ≡ Err Refusal.MixedDays
unfolding play play_from runs after walk at_candidate counted move_on leap new_year days_before_month
reading_7c = refl

-- reading 7: UNTIL before the start is accepted
reading_7d :
    play (raw 3 1 None (Some 1704067199) 0 1704067200 (raw_lists [] [] [] [] [] [] [] [] [] [])) (of 1 3 ∷ [])
    ≡ Ok (told Stop.Ended (at (State.Ended Cause.Until) 0 0 0) 0 0 (100 ∷ []) ∷ [])
unfolding play play_from runs after walk at_candidate counted move_on leap new_year days_before_month
reading_7d = refl

-- reading 8: YEARLY;BYMONTH=6,7 takes the month day only
reading_8a :
    play (raw 0 1 None None 0 1704412800 (raw_lists (pos 6 ∷ pos 7 ∷ []) [] [] [] [] [] [] [] [] [])) (of 2 3 ∷ [])
    ≡ Ok (told Stop.More (at State.Running 0 2 2) 0 2 (1717545600 ∷ 1720137600 ∷ []) ∷ [])
unfolding play play_from runs after walk at_candidate counted move_on leap new_year days_before_month
reading_8a = refl
