-- Records that no accepted check yields, and some that one does.
-- Assumes nothing.
use Rattle.std.specs.Prelude.{Some, None, Err}
use mathlib.Core.Path.{◌≡◌, refl}
use mathlib.Core.List.{[], ◌∷◌}
use lib.IntN.{pos, negsuc}
use Rattle.machine.specs.declared.Cause.{Cause}
use Rattle.machine.specs.declared.State.{State}
use Rattle.machine.specs.declared.Fault.{Fault}
use Rattle.machine.specs.declared.Stop.{Stop}
use Rattle.calendar.specs.Calendar.{leap, new_year, days_before_month}
use Rattle.machine.specs.Compute.{runs, after, walk}
use Rattle.machine.specs.Run.{at_candidate, counted, move_on}
use Rattle.rule.specs.declared.rrule.Refusal.{Refusal}
use Rattle.rule.specs.Raw.{raw, raw_lists}
use Rattle.cases.specs.Play.{of, at, told, play, play_from, on_given, on_filled}

-- DAILY, nothing filled in: 20
bad_record_1 :
    on_given (raw 3 1 None None 0 1704067200 (raw_lists [] [] [] [] [] [] [] [] [] [])) (at State.Running 0 0 0) (of 1 1)
    ≡ told (Stop.Refused Fault.Record) (at State.Running 0 0 0) 0 0 (100 ∷ [])
unfolding play play_from on_given on_filled runs after walk at_candidate counted move_on leap new_year days_before_month
bad_record_1 = refl

-- DAILY without BYSECOND: 20
bad_record_2 :
    on_given (raw 3 1 None None 0 1704067200 (raw_lists [] [] [] [] [] [] (pos 0 ∷ []) (pos 0 ∷ []) [] [])) (at State.Running 0 0 0) (of 1 1)
    ≡ told (Stop.Refused Fault.Record) (at State.Running 0 0 0) 0 0 (100 ∷ [])
unfolding play play_from on_given on_filled runs after walk at_candidate counted move_on leap new_year days_before_month
bad_record_2 = refl

-- DAILY without BYMINUTE: 20
bad_record_3 :
    on_given (raw 3 1 None None 0 1704067200 (raw_lists [] [] [] [] [] [] (pos 0 ∷ []) [] (pos 0 ∷ []) [])) (at State.Running 0 0 0) (of 1 1)
    ≡ told (Stop.Refused Fault.Record) (at State.Running 0 0 0) 0 0 (100 ∷ [])
unfolding play play_from on_given on_filled runs after walk at_candidate counted move_on leap new_year days_before_month
bad_record_3 = refl

-- DAILY without BYHOUR: 20
bad_record_4 :
    on_given (raw 3 1 None None 0 1704067200 (raw_lists [] [] [] [] [] [] [] (pos 0 ∷ []) (pos 0 ∷ []) [])) (at State.Running 0 0 0) (of 1 1)
    ≡ told (Stop.Refused Fault.Record) (at State.Running 0 0 0) 0 0 (100 ∷ [])
unfolding play play_from on_given on_filled runs after walk at_candidate counted move_on leap new_year days_before_month
bad_record_4 = refl

-- MONTHLY without a day: 20
bad_record_5 :
    on_given (raw 1 1 None None 0 1704067200 (raw_lists [] [] [] [] [] [] (pos 0 ∷ []) (pos 0 ∷ []) (pos 0 ∷ []) [])) (at State.Running 0 0 0) (of 1 1)
    ≡ told (Stop.Refused Fault.Record) (at State.Running 0 0 0) 0 0 (100 ∷ [])
unfolding play play_from on_given on_filled runs after walk at_candidate counted move_on leap new_year days_before_month
bad_record_5 = refl

-- WEEKLY without a day: 20
bad_record_6 :
    on_given (raw 2 1 None None 0 1704067200 (raw_lists [] [] [] [] [] [] (pos 0 ∷ []) (pos 0 ∷ []) (pos 0 ∷ []) [])) (at State.Running 0 0 0) (of 1 1)
    ≡ told (Stop.Refused Fault.Record) (at State.Running 0 0 0) 0 0 (100 ∷ [])
unfolding play play_from on_given on_filled runs after walk at_candidate counted move_on leap new_year days_before_month
bad_record_6 = refl

-- YEARLY;BYMONTH without a day: 20
bad_record_7 :
    on_given (raw 0 1 None None 0 1704067200 (raw_lists (pos 1 ∷ []) [] [] [] [] [] (pos 0 ∷ []) (pos 0 ∷ []) (pos 0 ∷ []) [])) (at State.Running 0 0 0) (of 1 1)
    ≡ told (Stop.Refused Fault.Record) (at State.Running 0 0 0) 0 0 (100 ∷ [])
unfolding play play_from on_given on_filled runs after walk at_candidate counted move_on leap new_year days_before_month
bad_record_7 = refl

-- week start 7: 20
bad_record_8 :
    on_filled (raw 3 1 None None 7 1704067200 (raw_lists [] [] [] [] [] [] [] [] [] [])) (at State.Running 0 0 0) (of 1 1)
    ≡ told (Stop.Refused Fault.Record) (at State.Running 0 0 0) 0 0 (100 ∷ [])
unfolding play play_from on_given on_filled runs after walk at_candidate counted move_on leap new_year days_before_month
bad_record_8 = refl

-- start out of range: 20
bad_record_9 :
    on_filled (raw 3 1 None None 0 253402300800 (raw_lists [] [] [] [] [] [] [] [] [] [])) (at State.Running 0 0 0) (of 1 1)
    ≡ told (Stop.Refused Fault.Record) (at State.Running 0 0 0) 0 0 (100 ∷ [])
unfolding play play_from on_given on_filled runs after walk at_candidate counted move_on leap new_year days_before_month
bad_record_9 = refl

-- UNTIL out of range: 20
bad_record_10 :
    on_filled (raw 3 1 None (Some 253402300800) 0 1704067200 (raw_lists [] [] [] [] [] [] [] [] [] [])) (at State.Running 0 0 0) (of 1 1)
    ≡ told (Stop.Refused Fault.Record) (at State.Running 0 0 0) 0 0 (100 ∷ [])
unfolding play play_from on_given on_filled runs after walk at_candidate counted move_on leap new_year days_before_month
bad_record_10 = refl

-- mixed BYDAY: 20
bad_record_11 :
    on_filled (raw 0 1 None None 0 1704067200 (raw_lists [] [] [] [] (pos 0 ∷ pos 2 ∷ []) (pos 0 ∷ pos 1 ∷ []) [] [] [] [])) (at State.Running 0 0 0) (of 1 1)
    ≡ told (Stop.Refused Fault.Record) (at State.Running 0 0 0) 0 0 (100 ∷ [])
unfolding play play_from on_given on_filled runs after walk at_candidate counted move_on leap new_year days_before_month
bad_record_11 = refl

-- DAILY with 2TU: 20
bad_record_12 :
    on_filled (raw 3 1 None None 0 1704067200 (raw_lists [] [] [] [] (pos 2 ∷ []) (pos 1 ∷ []) [] [] [] [])) (at State.Running 0 0 0) (of 1 1)
    ≡ told (Stop.Refused Fault.Record) (at State.Running 0 0 0) 0 0 (100 ∷ [])
unfolding play play_from on_given on_filled runs after walk at_candidate counted move_on leap new_year days_before_month
bad_record_12 = refl

-- BYWEEKNO with 2TU: 20
bad_record_13 :
    on_filled (raw 0 1 None None 0 1704067200 (raw_lists [] [] [] (pos 1 ∷ []) (pos 2 ∷ []) (pos 1 ∷ []) [] [] [] [])) (at State.Running 0 0 0) (of 1 1)
    ≡ told (Stop.Refused Fault.Record) (at State.Running 0 0 0) 0 0 (100 ∷ [])
unfolding play play_from on_given on_filled runs after walk at_candidate counted move_on leap new_year days_before_month
bad_record_13 = refl

-- SECONDLY with BYSETPOS alone: 20
bad_record_14 :
    on_filled (raw 6 1 None None 0 1704067200 (raw_lists [] [] [] [] [] [] [] [] [] (pos 1 ∷ []))) (at State.Running 0 0 0) (of 1 1)
    ≡ told (Stop.Refused Fault.Record) (at State.Running 0 0 0) 0 0 (100 ∷ [])
unfolding play play_from on_given on_filled runs after walk at_candidate counted move_on leap new_year days_before_month
bad_record_14 = refl

-- a bad record with an ended cursor: 20
bad_record_15 :
    on_given (raw 3 1 None None 0 1704067200 (raw_lists [] [] [] [] [] [] [] [] [] [])) (at (State.Ended Cause.Count) 3 2 1) (of 1 1)
    ≡ told (Stop.Refused Fault.Record) (at (State.Ended Cause.Count) 3 2 1) 0 0 (100 ∷ [])
unfolding play play_from on_given on_filled runs after walk at_candidate counted move_on leap new_year days_before_month
bad_record_15 = refl

-- a bad record with a bad cursor: 20
bad_record_16 :
    on_given (raw 3 1 None None 0 1704067200 (raw_lists [] [] [] [] [] [] [] [] [] [])) (at State.Running 18446744073709551615 0 0) (of 1 1)
    ≡ told (Stop.Refused Fault.Record) (at State.Running 18446744073709551615 0 0) 0 0 (100 ∷ [])
unfolding play play_from on_given on_filled runs after walk at_candidate counted move_on leap new_year days_before_month
bad_record_16 = refl

-- DAILY;INTERVAL=0: 20
bad_record_17 :
    on_filled (raw 3 0 None None 0 1704067200 (raw_lists [] [] [] [] [] [] [] [] [] [])) (at State.Running 0 0 0) (of 1 1)
    ≡ told (Stop.Refused Fault.Record) (at State.Running 0 0 0) 0 0 (100 ∷ [])
unfolding play play_from on_given on_filled runs after walk at_candidate counted move_on leap new_year days_before_month
bad_record_17 = refl

-- the same with an ended cursor that names Interval: 20
bad_record_18 :
    on_filled (raw 3 0 None None 0 1704067200 (raw_lists [] [] [] [] [] [] [] [] [] [])) (at (State.Ended Cause.Interval) 0 0 0) (of 1 1)
    ≡ told (Stop.Refused Fault.Record) (at (State.Ended Cause.Interval) 0 0 0) 0 0 (100 ∷ [])
unfolding play play_from on_given on_filled runs after walk at_candidate counted move_on leap new_year days_before_month
bad_record_18 = refl

-- DAILY;COUNT=0: 20
bad_record_19 :
    on_filled (raw 3 1 (Some 0) None 0 1704067200 (raw_lists [] [] [] [] [] [] [] [] [] [])) (at State.Running 0 0 0) (of 1 1)
    ≡ told (Stop.Refused Fault.Record) (at State.Running 0 0 0) 0 0 (100 ∷ [])
unfolding play play_from on_given on_filled runs after walk at_candidate counted move_on leap new_year days_before_month
bad_record_19 = refl

-- DAILY;COUNT=2;UNTIL=2024-01-01: 20
bad_record_20 :
    on_filled (raw 3 1 (Some 2) (Some 1704067200) 0 1704067200 (raw_lists [] [] [] [] [] [] [] [] [] [])) (at State.Running 0 0 0) (of 1 1)
    ≡ told (Stop.Refused Fault.Record) (at State.Running 0 0 0) 0 0 (100 ∷ [])
unfolding play play_from on_given on_filled runs after walk at_candidate counted move_on leap new_year days_before_month
bad_record_20 = refl

-- HOURLY;BYWEEKNO=1: 20
bad_record_21 :
    on_filled (raw 4 1 None None 0 1704067200 (raw_lists [] [] [] (pos 1 ∷ []) [] [] [] [] [] [])) (at State.Running 0 0 0) (of 1 1)
    ≡ told (Stop.Refused Fault.Record) (at State.Running 0 0 0) 0 0 (100 ∷ [])
unfolding play play_from on_given on_filled runs after walk at_candidate counted move_on leap new_year days_before_month
bad_record_21 = refl

-- MONTHLY;BYYEARDAY=1: 20
bad_record_22 :
    on_filled (raw 1 1 None None 0 1704067200 (raw_lists [] [] (pos 1 ∷ []) [] [] [] [] [] [] [])) (at State.Running 0 0 0) (of 1 1)
    ≡ told (Stop.Refused Fault.Record) (at State.Running 0 0 0) 0 0 (100 ∷ [])
unfolding play play_from on_given on_filled runs after walk at_candidate counted move_on leap new_year days_before_month
bad_record_22 = refl

-- WEEKLY;BYMONTHDAY=-1: 20
bad_record_23 :
    on_filled (raw 2 1 None None 0 1704067200 (raw_lists [] (negsuc 0 ∷ []) [] [] [] [] [] [] [] [])) (at State.Running 0 0 0) (of 1 1)
    ≡ told (Stop.Refused Fault.Record) (at State.Running 0 0 0) 0 0 (100 ∷ [])
unfolding play play_from on_given on_filled runs after walk at_candidate counted move_on leap new_year days_before_month
bad_record_23 = refl

-- reading 6: the filled form of DAILY;BYSETPOS=1 is a good record
good_record_1 :
    on_filled (raw 3 1 None None 0 1704067200 (raw_lists [] [] [] [] [] [] [] [] [] (pos 1 ∷ []))) (at State.Running 0 0 0) (of 1 1)
    ≡ told Stop.More (at State.Running 0 1 1) 0 1 (1704067200 ∷ [])
unfolding play play_from on_given on_filled runs after walk at_candidate counted move_on leap new_year days_before_month
good_record_1 = refl

-- SECONDLY has nothing to fill in
good_record_2 :
    on_given (raw 6 1 None None 0 1704067200 (raw_lists [] [] [] [] [] [] [] [] [] [])) (at State.Running 0 0 0) (of 2 1)
    ≡ told Stop.More (at State.Running 1 1 2) 1 2 (1704067200 ∷ 1704067201 ∷ [])
unfolding play play_from on_given on_filled runs after walk at_candidate counted move_on leap new_year days_before_month
good_record_2 = refl

-- DAILY with its times given
good_record_3 :
    on_given (raw 3 1 None None 0 1704067200 (raw_lists [] [] [] [] [] [] (pos 0 ∷ []) (pos 0 ∷ []) (pos 0 ∷ []) [])) (at State.Running 0 0 0) (of 2 1)
    ≡ told Stop.More (at State.Running 1 1 2) 1 2 (1704067200 ∷ 1704153600 ∷ [])
unfolding play play_from on_given on_filled runs after walk at_candidate counted move_on leap new_year days_before_month
good_record_3 = refl

-- an ended cursor that names Interval comes back as given
good_record_4 :
    on_filled (raw 3 1 None None 0 1704067200 (raw_lists [] [] [] [] [] [] [] [] [] [])) (at (State.Ended Cause.Interval) 7 3 9) (of 1 1)
    ≡ told Stop.Ended (at (State.Ended Cause.Interval) 7 3 9) 0 0 (100 ∷ [])
unfolding play play_from on_given on_filled runs after walk at_candidate counted move_on leap new_year days_before_month
good_record_4 = refl

-- MONTHLY from 31 January: the month day that is filled in is no fault
good_record_5 :
    on_filled (raw 1 1 None None 0 1706659200 (raw_lists [] [] [] [] [] [] [] [] [] [])) (at State.Running 0 0 0) (of 1 1)
    ≡ told Stop.More (at State.Running 0 1 1) 0 1 (1706659200 ∷ [])
unfolding play play_from on_given on_filled runs after walk at_candidate counted move_on leap new_year days_before_month
good_record_5 = refl

-- BYDAY's two lists of different length: 5
half_record_1 :
    play (raw 0 1 None None 0 1704067200 (raw_lists [] [] [] [] (pos 0 ∷ []) [] [] [] [] [])) []
    ≡ Err Refusal.EntryOut
unfolding play play_from on_given on_filled runs after walk at_candidate counted move_on leap new_year days_before_month
half_record_1 = refl

-- BYDAY's two lists of different length: 5
half_record_2 :
    play (raw 0 1 None None 0 1704067200 (raw_lists [] [] [] [] [] (pos 0 ∷ []) [] [] [] [])) []
    ≡ Err Refusal.EntryOut
unfolding play play_from on_given on_filled runs after walk at_candidate counted move_on leap new_year days_before_month
half_record_2 = refl
