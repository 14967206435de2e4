-- Refused rules and their neighbours that are taken.
-- Assumes nothing.
use Rattle.std.specs.Prelude.{Some, None, Ok, Err}
use mathlib.Core.Path.{◌≡◌, refl}
use mathlib.Core.List.{[], ◌∷◌}
use Prim.Native.Nat.{ℕ}
use lib.IntN.{pos, negsuc}
use Rattle.machine.specs.declared.Cause.{Cause}
use Rattle.machine.specs.declared.State.{State}
use Rattle.machine.specs.declared.Stop.{Stop}
use Rattle.calendar.specs.Calendar.{leap, new_year, days_before_month}
use Rattle.machine.specs.Compute.{runs, after, walk}
use Rattle.machine.specs.Run.{at_candidate, counted, move_on}
use Rattle.rule.specs.declared.rrule.Refusal.{Refusal}
use Rattle.rule.specs.Raw.{Raw, raw, raw_lists}
use Rattle.cases.specs.Play.{of, at, told, play, play_from}

-- frequency 7: freq=7
refused_0 :
    play (raw 7 1 None None 0 1704067200 (raw_lists [] [] [] [] [] [] [] [] [] [])) ([])
    ≡ Err Refusal.FrequencyAbove
unfolding play play_from runs after walk at_candidate counted move_on leap new_year days_before_month
refused_0 = refl

-- the lowest: freq=7 wkst=7
refused_1 :
    play (raw 7 1 None None 7 1704067200 (raw_lists [] [] [] [] [] [] [] [] [] [])) ([])
    ≡ Err Refusal.FrequencyAbove
unfolding play play_from runs after walk at_candidate counted move_on leap new_year days_before_month
refused_1 = refl

-- week start 7: freq=3 wkst=7
refused_2 :
    play (raw 3 1 None None 7 1704067200 (raw_lists [] [] [] [] [] [] [] [] [] [])) ([])
    ≡ Err Refusal.WeekStartAbove
unfolding play play_from runs after walk at_candidate counted move_on leap new_year days_before_month
refused_2 = refl

-- freq=3 wkst=7 until=253402300800
refused_3 :
    play (raw 3 1 None (Some 253402300800) 7 1704067200 (raw_lists [] [] [] [] [] [] [] [] [] [])) ([])
    ≡ Err Refusal.WeekStartAbove
unfolding play play_from runs after walk at_candidate counted move_on leap new_year days_before_month
refused_3 = refl

-- UNTIL out of range: freq=3 until=253402300800
refused_4 :
    play (raw 3 1 None (Some 253402300800) 0 1704067200 (raw_lists [] [] [] [] [] [] [] [] [] [])) ([])
    ≡ Err Refusal.UntilOut
unfolding play play_from runs after walk at_candidate counted move_on leap new_year days_before_month
refused_4 = refl

-- BYSETPOS=0: freq=3 bysetpos=0
refused_5 :
    play (raw 3 1 None None 0 1704067200 (raw_lists [] [] [] [] [] [] [] [] [] (pos 0 ∷ []))) ([])
    ≡ Err Refusal.EntryOut
unfolding play play_from runs after walk at_candidate counted move_on leap new_year days_before_month
refused_5 = refl

-- BYSETPOS=1,1: freq=3 byhour=0 bysetpos=1,1
refused_6 :
    play (raw 3 1 None None 0 1704067200 (raw_lists [] [] [] [] [] [] (pos 0 ∷ []) [] [] (pos 1 ∷ pos 1 ∷ []))) ([])
    ≡ Err Refusal.NotRising
unfolding play play_from runs after walk at_candidate counted move_on leap new_year days_before_month
refused_6 = refl

-- freq=3 byhour=0 bysetpos=367
refused_7 :
    play (raw 3 1 None None 0 1704067200 (raw_lists [] [] [] [] [] [] (pos 0 ∷ []) [] [] (pos 367 ∷ []))) ([])
    ≡ Err Refusal.EntryOut
unfolding play play_from runs after walk at_candidate counted move_on leap new_year days_before_month
refused_7 = refl

-- freq=3 byhour=0 bysetpos=-367
refused_8 :
    play (raw 3 1 None None 0 1704067200 (raw_lists [] [] [] [] [] [] (pos 0 ∷ []) [] [] (negsuc 366 ∷ []))) ([])
    ≡ Err Refusal.EntryOut
unfolding play play_from runs after walk at_candidate counted move_on leap new_year days_before_month
refused_8 = refl

-- freq=3 bymonth=0
refused_9 :
    play (raw 3 1 None None 0 1704067200 (raw_lists (pos 0 ∷ []) [] [] [] [] [] [] [] [] [])) ([])
    ≡ Err Refusal.EntryOut
unfolding play play_from runs after walk at_candidate counted move_on leap new_year days_before_month
refused_9 = refl

-- freq=3 bymonth=13
refused_10 :
    play (raw 3 1 None None 0 1704067200 (raw_lists (pos 13 ∷ []) [] [] [] [] [] [] [] [] [])) ([])
    ≡ Err Refusal.EntryOut
unfolding play play_from runs after walk at_candidate counted move_on leap new_year days_before_month
refused_10 = refl

-- freq=3 bymonth=-1
refused_11 :
    play (raw 3 1 None None 0 1704067200 (raw_lists (negsuc 0 ∷ []) [] [] [] [] [] [] [] [] [])) ([])
    ≡ Err Refusal.EntryOut
unfolding play play_from runs after walk at_candidate counted move_on leap new_year days_before_month
refused_11 = refl

-- freq=3 bymonthday=0
refused_12 :
    play (raw 3 1 None None 0 1704067200 (raw_lists [] (pos 0 ∷ []) [] [] [] [] [] [] [] [])) ([])
    ≡ Err Refusal.EntryOut
unfolding play play_from runs after walk at_candidate counted move_on leap new_year days_before_month
refused_12 = refl

-- freq=3 bymonthday=32
refused_13 :
    play (raw 3 1 None None 0 1704067200 (raw_lists [] (pos 32 ∷ []) [] [] [] [] [] [] [] [])) ([])
    ≡ Err Refusal.EntryOut
unfolding play play_from runs after walk at_candidate counted move_on leap new_year days_before_month
refused_13 = refl

-- freq=3 bymonthday=-32
refused_14 :
    play (raw 3 1 None None 0 1704067200 (raw_lists [] (negsuc 31 ∷ []) [] [] [] [] [] [] [] [])) ([])
    ≡ Err Refusal.EntryOut
unfolding play play_from runs after walk at_candidate counted move_on leap new_year days_before_month
refused_14 = refl

-- freq=3 byyearday=0
refused_15 :
    play (raw 3 1 None None 0 1704067200 (raw_lists [] [] (pos 0 ∷ []) [] [] [] [] [] [] [])) ([])
    ≡ Err Refusal.EntryOut
unfolding play play_from runs after walk at_candidate counted move_on leap new_year days_before_month
refused_15 = refl

-- freq=3 byyearday=367
refused_16 :
    play (raw 3 1 None None 0 1704067200 (raw_lists [] [] (pos 367 ∷ []) [] [] [] [] [] [] [])) ([])
    ≡ Err Refusal.EntryOut
unfolding play play_from runs after walk at_candidate counted move_on leap new_year days_before_month
refused_16 = refl

-- freq=3 byyearday=-367
refused_17 :
    play (raw 3 1 None None 0 1704067200 (raw_lists [] [] (negsuc 366 ∷ []) [] [] [] [] [] [] [])) ([])
    ≡ Err Refusal.EntryOut
unfolding play play_from runs after walk at_candidate counted move_on leap new_year days_before_month
refused_17 = refl

-- freq=3 byweekno=0
refused_18 :
    play (raw 3 1 None None 0 1704067200 (raw_lists [] [] [] (pos 0 ∷ []) [] [] [] [] [] [])) ([])
    ≡ Err Refusal.EntryOut
unfolding play play_from runs after walk at_candidate counted move_on leap new_year days_before_month
refused_18 = refl

-- freq=3 byweekno=54
refused_19 :
    play (raw 3 1 None None 0 1704067200 (raw_lists [] [] [] (pos 54 ∷ []) [] [] [] [] [] [])) ([])
    ≡ Err Refusal.EntryOut
unfolding play play_from runs after walk at_candidate counted move_on leap new_year days_before_month
refused_19 = refl

-- freq=3 byweekno=-54
refused_20 :
    play (raw 3 1 None None 0 1704067200 (raw_lists [] [] [] (negsuc 53 ∷ []) [] [] [] [] [] [])) ([])
    ≡ Err Refusal.EntryOut
unfolding play play_from runs after walk at_candidate counted move_on leap new_year days_before_month
refused_20 = refl

-- freq=0 byday=54:0
refused_21 :
    play (raw 0 1 None None 0 1704067200 (raw_lists [] [] [] [] (pos 54 ∷ []) (pos 0 ∷ []) [] [] [] [])) ([])
    ≡ Err Refusal.EntryOut
unfolding play play_from runs after walk at_candidate counted move_on leap new_year days_before_month
refused_21 = refl

-- freq=0 byday=-54:0
refused_22 :
    play (raw 0 1 None None 0 1704067200 (raw_lists [] [] [] [] (negsuc 53 ∷ []) (pos 0 ∷ []) [] [] [] [])) ([])
    ≡ Err Refusal.EntryOut
unfolding play play_from runs after walk at_candidate counted move_on leap new_year days_before_month
refused_22 = refl

-- freq=0 byday=0:7
refused_23 :
    play (raw 0 1 None None 0 1704067200 (raw_lists [] [] [] [] (pos 0 ∷ []) (pos 7 ∷ []) [] [] [] [])) ([])
    ≡ Err Refusal.EntryOut
unfolding play play_from runs after walk at_candidate counted move_on leap new_year days_before_month
refused_23 = refl

-- freq=0 byday=0:-1
refused_24 :
    play (raw 0 1 None None 0 1704067200 (raw_lists [] [] [] [] (pos 0 ∷ []) (negsuc 0 ∷ []) [] [] [] [])) ([])
    ≡ Err Refusal.EntryOut
unfolding play play_from runs after walk at_candidate counted move_on leap new_year days_before_month
refused_24 = refl

-- freq=3 byhour=24
refused_25 :
    play (raw 3 1 None None 0 1704067200 (raw_lists [] [] [] [] [] [] (pos 24 ∷ []) [] [] [])) ([])
    ≡ Err Refusal.EntryOut
unfolding play play_from runs after walk at_candidate counted move_on leap new_year days_before_month
refused_25 = refl

-- freq=3 byhour=-1
refused_26 :
    play (raw 3 1 None None 0 1704067200 (raw_lists [] [] [] [] [] [] (negsuc 0 ∷ []) [] [] [])) ([])
    ≡ Err Refusal.EntryOut
unfolding play play_from runs after walk at_candidate counted move_on leap new_year days_before_month
refused_26 = refl

-- freq=3 byminute=60
refused_27 :
    play (raw 3 1 None None 0 1704067200 (raw_lists [] [] [] [] [] [] [] (pos 60 ∷ []) [] [])) ([])
    ≡ Err Refusal.EntryOut
unfolding play play_from runs after walk at_candidate counted move_on leap new_year days_before_month
refused_27 = refl

-- freq=3 bysecond=60
refused_28 :
    play (raw 3 1 None None 0 1704067200 (raw_lists [] [] [] [] [] [] [] [] (pos 60 ∷ []) [])) ([])
    ≡ Err Refusal.EntryOut
unfolding play play_from runs after walk at_candidate counted move_on leap new_year days_before_month
refused_28 = refl

-- BYDAY by n, then weekday: freq=0 byday=1:1,1:0
refused_29 :
    play (raw 0 1 None None 0 1704067200 (raw_lists [] [] [] [] (pos 1 ∷ pos 1 ∷ []) (pos 1 ∷ pos 0 ∷ []) [] [] [] [])) ([])
    ≡ Err Refusal.NotRising
unfolding play play_from runs after walk at_candidate counted move_on leap new_year days_before_month
refused_29 = refl

-- freq=0 byday=1:0,-1:0
refused_30 :
    play (raw 0 1 None None 0 1704067200 (raw_lists [] [] [] [] (pos 1 ∷ negsuc 0 ∷ []) (pos 0 ∷ pos 0 ∷ []) [] [] [] [])) ([])
    ≡ Err Refusal.NotRising
unfolding play play_from runs after walk at_candidate counted move_on leap new_year days_before_month
refused_30 = refl

-- freq=2 byday=1:0
refused_31 :
    play (raw 2 1 None None 0 1704067200 (raw_lists [] [] [] [] (pos 1 ∷ []) (pos 0 ∷ []) [] [] [] [])) ([])
    ≡ Err Refusal.NthMisplaced
unfolding play play_from runs after walk at_candidate counted move_on leap new_year days_before_month
refused_31 = refl

-- freq=0 byweekno=1 byday=1:0
refused_32 :
    play (raw 0 1 None None 0 1704067200 (raw_lists [] [] [] (pos 1 ∷ []) (pos 1 ∷ []) (pos 0 ∷ []) [] [] [] [])) ([])
    ≡ Err Refusal.NthMisplaced
unfolding play play_from runs after walk at_candidate counted move_on leap new_year days_before_month
refused_32 = refl

-- freq=3 bysetpos=1
refused_33 :
    play (raw 3 1 None None 0 1704067200 (raw_lists [] [] [] [] [] [] [] [] [] (pos 1 ∷ []))) ([])
    ≡ Err Refusal.PositionsAlone
unfolding play play_from runs after walk at_candidate counted move_on leap new_year days_before_month
refused_33 = refl

-- DAILY;INTERVAL=0: 10
refused_34 :
    play (raw 3 0 None None 0 1704067200 (raw_lists [] [] [] [] [] [] [] [] [] [])) ([])
    ≡ Err Refusal.Nought
unfolding play play_from runs after walk at_candidate counted move_on leap new_year days_before_month
refused_34 = refl

-- DAILY;COUNT=0: 10
refused_35 :
    play (raw 3 1 (Some 0) None 0 1704067200 (raw_lists [] [] [] [] [] [] [] [] [] [])) ([])
    ≡ Err Refusal.Nought
unfolding play play_from runs after walk at_candidate counted move_on leap new_year days_before_month
refused_35 = refl

-- DAILY;INTERVAL=0;BYSETPOS=1: 9 is lower
refused_36 :
    play (raw 3 0 None None 0 1704067200 (raw_lists [] [] [] [] [] [] [] [] [] (pos 1 ∷ []))) ([])
    ≡ Err Refusal.PositionsAlone
unfolding play play_from runs after walk at_candidate counted move_on leap new_year days_before_month
refused_36 = refl

-- DAILY;COUNT=1;UNTIL=1970-01-01: 11, whatever they are
refused_37 :
    play (raw 3 1 (Some 1) (Some 0) 0 1704067200 (raw_lists [] [] [] [] [] [] [] [] [] [])) ([])
    ≡ Err Refusal.CountAndUntil
unfolding play play_from runs after walk at_candidate counted move_on leap new_year days_before_month
refused_37 = refl

-- DAILY;COUNT=0;UNTIL=2024-01-01: 10 is lower
refused_38 :
    play (raw 3 1 (Some 0) (Some 1704067200) 0 1704067200 (raw_lists [] [] [] [] [] [] [] [] [] [])) ([])
    ≡ Err Refusal.Nought
unfolding play play_from runs after walk at_candidate counted move_on leap new_year days_before_month
refused_38 = refl

-- DAILY;COUNT=1;UNTIL out of range: 4 is lower
refused_39 :
    play (raw 3 1 (Some 1) (Some 253402300800) 0 1704067200 (raw_lists [] [] [] [] [] [] [] [] [] [])) ([])
    ≡ Err Refusal.UntilOut
unfolding play play_from runs after walk at_candidate counted move_on leap new_year days_before_month
refused_39 = refl

-- MONTHLY;BYWEEKNO=1: 12
refused_40 :
    play (raw 1 1 None None 0 1704067200 (raw_lists [] [] [] (pos 1 ∷ []) [] [] [] [] [] [])) ([])
    ≡ Err Refusal.ListMisplaced
unfolding play play_from runs after walk at_candidate counted move_on leap new_year days_before_month
refused_40 = refl

-- WEEKLY;BYWEEKNO=1: 12
refused_41 :
    play (raw 2 1 None None 0 1704067200 (raw_lists [] [] [] (pos 1 ∷ []) [] [] [] [] [] [])) ([])
    ≡ Err Refusal.ListMisplaced
unfolding play play_from runs after walk at_candidate counted move_on leap new_year days_before_month
refused_41 = refl

-- DAILY;BYWEEKNO=1: 12
refused_42 :
    play (raw 3 1 None None 0 1704067200 (raw_lists [] [] [] (pos 1 ∷ []) [] [] [] [] [] [])) ([])
    ≡ Err Refusal.ListMisplaced
unfolding play play_from runs after walk at_candidate counted move_on leap new_year days_before_month
refused_42 = refl

-- HOURLY;BYWEEKNO=1: 12
refused_43 :
    play (raw 4 1 None None 0 1704067200 (raw_lists [] [] [] (pos 1 ∷ []) [] [] [] [] [] [])) ([])
    ≡ Err Refusal.ListMisplaced
unfolding play play_from runs after walk at_candidate counted move_on leap new_year days_before_month
refused_43 = refl

-- MINUTELY;BYWEEKNO=1: 12
refused_44 :
    play (raw 5 1 None None 0 1704067200 (raw_lists [] [] [] (pos 1 ∷ []) [] [] [] [] [] [])) ([])
    ≡ Err Refusal.ListMisplaced
unfolding play play_from runs after walk at_candidate counted move_on leap new_year days_before_month
refused_44 = refl

-- SECONDLY;BYWEEKNO=1: 12
refused_45 :
    play (raw 6 1 None None 0 1704067200 (raw_lists [] [] [] (pos 1 ∷ []) [] [] [] [] [] [])) ([])
    ≡ Err Refusal.ListMisplaced
unfolding play play_from runs after walk at_candidate counted move_on leap new_year days_before_month
refused_45 = refl

-- MONTHLY;BYYEARDAY=1: 12
refused_46 :
    play (raw 1 1 None None 0 1704067200 (raw_lists [] [] (pos 1 ∷ []) [] [] [] [] [] [] [])) ([])
    ≡ Err Refusal.ListMisplaced
unfolding play play_from runs after walk at_candidate counted move_on leap new_year days_before_month
refused_46 = refl

-- WEEKLY;BYYEARDAY=1: 12
refused_47 :
    play (raw 2 1 None None 0 1704067200 (raw_lists [] [] (pos 1 ∷ []) [] [] [] [] [] [] [])) ([])
    ≡ Err Refusal.ListMisplaced
unfolding play play_from runs after walk at_candidate counted move_on leap new_year days_before_month
refused_47 = refl

-- DAILY;BYYEARDAY=1: 12
refused_48 :
    play (raw 3 1 None None 0 1704067200 (raw_lists [] [] (pos 1 ∷ []) [] [] [] [] [] [] [])) ([])
    ≡ Err Refusal.ListMisplaced
unfolding play play_from runs after walk at_candidate counted move_on leap new_year days_before_month
refused_48 = refl

-- WEEKLY;BYMONTHDAY=1: 12
refused_49 :
    play (raw 2 1 None None 0 1704067200 (raw_lists [] (pos 1 ∷ []) [] [] [] [] [] [] [] [])) ([])
    ≡ Err Refusal.ListMisplaced
unfolding play play_from runs after walk at_candidate counted move_on leap new_year days_before_month
refused_49 = refl

-- WEEKLY;BYMONTHDAY=-1: 12, of either sign
refused_50 :
    play (raw 2 1 None None 0 1704067200 (raw_lists [] (negsuc 0 ∷ []) [] [] [] [] [] [] [] [])) ([])
    ≡ Err Refusal.ListMisplaced
unfolding play play_from runs after walk at_candidate counted move_on leap new_year days_before_month
refused_50 = refl

-- WEEKLY;BYMONTHDAY=0: 5 is lower
refused_51 :
    play (raw 2 1 None None 0 1704067200 (raw_lists [] (pos 0 ∷ []) [] [] [] [] [] [] [] [])) ([])
    ≡ Err Refusal.EntryOut
unfolding play play_from runs after walk at_candidate counted move_on leap new_year days_before_month
refused_51 = refl

-- DAILY;BYWEEKNO=1;BYDAY=2TU: 8 is lower
refused_52 :
    play (raw 3 1 None None 0 1704067200 (raw_lists [] [] [] (pos 1 ∷ []) (pos 2 ∷ []) (pos 1 ∷ []) [] [] [] [])) ([])
    ≡ Err Refusal.NthMisplaced
unfolding play play_from runs after walk at_candidate counted move_on leap new_year days_before_month
refused_52 = refl

-- WEEKLY;BYMONTHDAY=1;COUNT=1;UNTIL=2024-01-01: 11 is lower
refused_53 :
    play (raw 2 1 (Some 1) (Some 1704067200) 0 1704067200 (raw_lists [] (pos 1 ∷ []) [] [] [] [] [] [] [] [])) ([])
    ≡ Err Refusal.CountAndUntil
unfolding play play_from runs after walk at_candidate counted move_on leap new_year days_before_month
refused_53 = refl

-- frequency 7 with BYWEEKNO: 1 is lower
refused_54 :
    play (raw 7 1 None None 0 1704067200 (raw_lists [] [] [] (pos 1 ∷ []) [] [] [] [] [] [])) ([])
    ≡ Err Refusal.FrequencyAbove
unfolding play play_from runs after walk at_candidate counted move_on leap new_year days_before_month
refused_54 = refl

-- SECONDLY;BYSECOND=0;BYSETPOS=1: accepted
accepted_1 :
    play (raw 6 1 None None 0 1704067200 (raw_lists [] [] [] [] [] [] [] [] (pos 0 ∷ []) (pos 1 ∷ []))) (of 1 0 ∷ [])
    ≡ Ok (told Stop.More (at State.Running 0 1 1) 0 1 (1704067200 ∷ []) ∷ [])
unfolding play play_from runs after walk at_candidate counted move_on leap new_year days_before_month
accepted_1 = refl

-- the edges of BYDAY: accepted
accepted_2 :
    play (raw 0 1 None None 0 1704067200 (raw_lists [] [] [] [] (negsuc 52 ∷ negsuc 52 ∷ pos 53 ∷ pos 53 ∷ []) (pos 0 ∷ pos 6 ∷ pos 0 ∷ pos 6 ∷ []) [] [] [] [])) (of 2 0 ∷ [])
    ≡ Ok (told Stop.More (at State.Running 0 2 2) 0 2 (1704067200 ∷ 1735516800 ∷ []) ∷ [])
unfolding play play_from runs after walk at_candidate counted move_on leap new_year days_before_month
accepted_2 = refl

-- the edges of every list
every : ℕ → Raw
every freq =
    raw freq 1 None (Some 253402300799) 6 0
    (raw_lists (pos 1 ∷ pos 12 ∷ []) (negsuc 30 ∷ pos 31 ∷ []) (negsuc 365 ∷ pos 1 ∷ pos 366 ∷ []) (negsuc 52 ∷ pos 1 ∷ pos 53 ∷ []) [] []
    (pos 0 ∷ pos 23 ∷ []) (pos 0 ∷ pos 59 ∷ []) (pos 0 ∷ pos 59 ∷ []) (negsuc 365 ∷ pos 366 ∷ []))

-- with YEARLY: accepted
accepted_3 :
    play (every 0) (of 1 3 ∷ [])
    ≡ Ok (told Stop.Limited (at State.Running 3 0 0) 3 0 (100 ∷ []) ∷ [])
unfolding every play play_from runs after walk at_candidate counted move_on leap new_year days_before_month
accepted_3 = refl

-- with DAILY: 12
refused_55 :
    play (every 3) ([])
    ≡ Err Refusal.ListMisplaced
unfolding every play play_from runs after walk at_candidate counted move_on leap new_year days_before_month
refused_55 = refl

-- YEARLY;BYWEEKNO keeps all seven days
accepted_4 :
    play (raw 0 1 None None 0 1704067200 (raw_lists [] [] [] (pos 1 ∷ pos 2 ∷ []) [] [] [] [] [] [])) (of 15 1 ∷ [])
    ≡ Ok (told Stop.More (at State.Running 0 15 15) 0 15
    (1704067200 ∷ 1704153600 ∷ 1704240000 ∷ 1704326400 ∷ 1704412800 ∷ 1704499200 ∷ 1704585600 ∷ 1704672000 ∷ 1704758400 ∷ 1704844800 ∷ 1704931200
    ∷ 1705017600 ∷ 1705104000 ∷ 1705190400 ∷ 1735516800 ∷ []) ∷ [])
unfolding play play_from runs after walk at_candidate counted move_on leap new_year days_before_month
accepted_4 = refl

-- MONTHLY;BYWEEKNO: 12
refused_56 :
    play (raw 1 1 None None 0 1704067200 (raw_lists [] [] [] (pos 1 ∷ pos 2 ∷ []) [] [] [] [] [] [])) ([])
    ≡ Err Refusal.ListMisplaced
unfolding play play_from runs after walk at_candidate counted move_on leap new_year days_before_month
refused_56 = refl

-- COUNT=1 with INTERVAL=65535: accepted
accepted_5 :
    play (raw 3 65535 (Some 1) None 0 1704067200 (raw_lists [] [] [] [] [] [] [] [] [] [])) (of 1 0 ∷ [])
    ≡ Ok (told Stop.Ended (at (State.Ended Cause.Count) 0 1 1) 0 1 (1704067200 ∷ []) ∷ [])
unfolding play play_from runs after walk at_candidate counted move_on leap new_year days_before_month
accepted_5 = refl

-- HOURLY;BYYEARDAY=1: accepted
accepted_6 :
    play (raw 4 1 None None 0 1704067200 (raw_lists [] [] (pos 1 ∷ []) [] [] [] [] [] [] [])) (of 1 0 ∷ [])
    ≡ Ok (told Stop.More (at State.Running 0 1 1) 0 1 (1704067200 ∷ []) ∷ [])
unfolding play play_from runs after walk at_candidate counted move_on leap new_year days_before_month
accepted_6 = refl

-- MINUTELY;BYYEARDAY=1: accepted
accepted_7 :
    play (raw 5 1 None None 0 1704067200 (raw_lists [] [] (pos 1 ∷ []) [] [] [] [] [] [] [])) (of 1 0 ∷ [])
    ≡ Ok (told Stop.More (at State.Running 0 1 1) 0 1 (1704067200 ∷ []) ∷ [])
unfolding play play_from runs after walk at_candidate counted move_on leap new_year days_before_month
accepted_7 = refl

-- SECONDLY;BYYEARDAY=1: accepted
accepted_8 :
    play (raw 6 1 None None 0 1704067200 (raw_lists [] [] (pos 1 ∷ []) [] [] [] [] [] [] [])) (of 1 0 ∷ [])
    ≡ Ok (told Stop.More (at State.Running 0 1 1) 0 1 (1704067200 ∷ []) ∷ [])
unfolding play play_from runs after walk at_candidate counted move_on leap new_year days_before_month
accepted_8 = refl

-- MONTHLY from 31 January: accepted, though BYMONTHDAY is filled in
accepted_9 :
    play (raw 1 1 None None 0 1706659200 (raw_lists [] [] [] [] [] [] [] [] [] [])) (of 2 2 ∷ [])
    ≡ Ok (told Stop.More (at State.Running 2 1 2) 2 2 (1706659200 ∷ 1711843200 ∷ []) ∷ [])
unfolding play play_from runs after walk at_candidate counted move_on leap new_year days_before_month
accepted_9 = refl
