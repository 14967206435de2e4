-- RFC 5545's examples, in UTC and cut where they run on.
-- Assumes nothing.
use Rattle.std.specs.Prelude.{Some, None, Ok}
use mathlib.Core.Path.{◌≡◌, refl}
use mathlib.Core.List.{[], ◌∷◌}
use lib.IntN.{pos, negsuc}
use Rattle.machine.specs.declared.Cause.{Cause}
use Rattle.machine.specs.declared.State.{State}
use Rattle.machine.specs.declared.Stop.{Stop}
use Rattle.calendar.specs.Calendar.{leap, new_year, days_before_month}
use Rattle.machine.specs.Compute.{runs, after, walk}
use Rattle.machine.specs.Run.{at_candidate, counted, move_on}
use Rattle.rule.specs.Raw.{raw, raw_lists}
use Rattle.cases.specs.Play.{of, at, told, play, play_from}

-- YEARLY;BYDAY=20MO from 1997-05-19: 19 May, 18 May, 17 May
example_1 :
    play (raw 0 1 None None 0 864032400 (raw_lists [] [] [] [] (pos 20 ∷ []) (pos 0 ∷ []) [] [] [] [])) (of 3 10 ∷ [])
    ≡ Ok (told Stop.More (at State.Running 2 1 3) 2 3 (864032400 ∷ 895482000 ∷ 926931600 ∷ []) ∷ [])
unfolding play play_from runs after walk at_candidate counted move_on leap new_year days_before_month
example_1 = refl

-- WEEKLY;INTERVAL=2;COUNT=4;BYDAY=TU,SU;WKST=MO
example_2a :
    play (raw 2 2 (Some 4) None 0 870771600 (raw_lists [] [] [] [] (pos 0 ∷ pos 0 ∷ []) (pos 1 ∷ pos 6 ∷ []) [] [] [] [])) (of 5 10 ∷ [])
    ≡ Ok (told Stop.Ended (at (State.Ended Cause.Count) 1 2 4) 1 4 (870771600 ∷ 871203600 ∷ 871981200 ∷ 872413200 ∷ 104 ∷ []) ∷ [])
unfolding play play_from runs after walk at_candidate counted move_on leap new_year days_before_month
example_2a = refl

-- the same with WKST=SU
example_2b :
    play (raw 2 2 (Some 4) None 6 870771600 (raw_lists [] [] [] [] (pos 0 ∷ pos 0 ∷ []) (pos 1 ∷ pos 6 ∷ []) [] [] [] [])) (of 5 10 ∷ [])
    ≡ Ok (told Stop.Ended (at (State.Ended Cause.Count) 2 1 4) 2 4 (870771600 ∷ 871808400 ∷ 871981200 ∷ 873018000 ∷ 104 ∷ []) ∷ [])
unfolding play play_from runs after walk at_candidate counted move_on leap new_year days_before_month
example_2b = refl

-- last work day of the month (from 1997-09-29)
example_3 :
    play (raw 1 1 None None 0 875523600 (raw_lists [] [] [] [] (pos 0 ∷ pos 0 ∷ pos 0 ∷ pos 0 ∷ pos 0 ∷ []) (pos 0 ∷ pos 1 ∷ pos 2 ∷ pos 3 ∷ pos 4 ∷ []) [] [] [] (negsuc 0 ∷ []))) (of 4 10 ∷ [])
    ≡ Ok (told Stop.More (at State.Running 3 1 4) 3 4 (875610000 ∷ 878288400 ∷ 880707600 ∷ 883558800 ∷ []) ∷ [])
unfolding play play_from runs after walk at_candidate counted move_on leap new_year days_before_month
example_3 = refl

-- second-to-last weekday of the month
example_3b :
    play (raw 1 1 None None 0 875523600 (raw_lists [] [] [] [] (pos 0 ∷ pos 0 ∷ pos 0 ∷ pos 0 ∷ pos 0 ∷ []) (pos 0 ∷ pos 1 ∷ pos 2 ∷ pos 3 ∷ pos 4 ∷ []) [] [] [] (negsuc 1 ∷ []))) (of 4 10 ∷ [])
    ≡ Ok (told Stop.More (at State.Running 3 1 4) 3 4 (875523600 ∷ 878202000 ∷ 880621200 ∷ 883472400 ∷ []) ∷ [])
unfolding play play_from runs after walk at_candidate counted move_on leap new_year days_before_month
example_3b = refl

-- third instance of TU, WE, TH
example_3c :
    play (raw 1 1 (Some 3) None 0 873363600 (raw_lists [] [] [] [] (pos 0 ∷ pos 0 ∷ pos 0 ∷ []) (pos 1 ∷ pos 2 ∷ pos 3 ∷ []) [] [] [] (pos 3 ∷ []))) (of 4 10 ∷ [])
    ≡ Ok (told Stop.Ended (at (State.Ended Cause.Count) 2 1 3) 2 3 (873363600 ∷ 876214800 ∷ 878806800 ∷ 103 ∷ []) ∷ [])
unfolding play play_from runs after walk at_candidate counted move_on leap new_year days_before_month
example_3c = refl

-- every Friday the 13th (no EXDATE: 2 September isn't one)
example_4 :
    play (raw 1 1 None None 0 873190800 (raw_lists [] (pos 13 ∷ []) [] [] (pos 0 ∷ []) (pos 4 ∷ []) [] [] [] [])) (of 3 30 ∷ [])
    ≡ Ok (told Stop.More (at State.Running 14 1 3) 14 3 (887360400 ∷ 889779600 ∷ 910947600 ∷ []) ∷ [])
unfolding play play_from runs after walk at_candidate counted move_on leap new_year days_before_month
example_4 = refl

-- first Saturday after the first Sunday
example_5 :
    play (raw 1 1 None None 0 874141200 (raw_lists [] (pos 7 ∷ pos 8 ∷ pos 9 ∷ pos 10 ∷ pos 11 ∷ pos 12 ∷ pos 13 ∷ []) [] [] (pos 0 ∷ []) (pos 5 ∷ []) [] [] [] [])) (of 4 10 ∷ [])
    ≡ Ok (told Stop.More (at State.Running 3 1 4) 3 4 (874141200 ∷ 876560400 ∷ 878979600 ∷ 882003600 ∷ []) ∷ [])
unfolding play play_from runs after walk at_candidate counted move_on leap new_year days_before_month
example_5 = refl

-- US Presidential Election day
example_6 :
    play (raw 0 4 None None 0 847184400 (raw_lists (pos 11 ∷ []) (pos 2 ∷ pos 3 ∷ pos 4 ∷ pos 5 ∷ pos 6 ∷ pos 7 ∷ pos 8 ∷ []) [] [] (pos 0 ∷ []) (pos 1 ∷ []) [] [] [] [])) (of 3 10 ∷ [])
    ≡ Ok (told Stop.More (at State.Running 2 1 3) 2 3 (847184400 ∷ 973587600 ∷ 1099386000 ∷ []) ∷ [])
unfolding play play_from runs after walk at_candidate counted move_on leap new_year days_before_month
example_6 = refl

-- Monday of week 20
example_7 :
    play (raw 0 1 None None 0 863427600 (raw_lists [] [] [] (pos 20 ∷ []) (pos 0 ∷ []) (pos 0 ∷ []) [] [] [] [])) (of 3 10 ∷ [])
    ≡ Ok (told Stop.More (at State.Running 2 1 3) 2 3 (863427600 ∷ 894877200 ∷ 926931600 ∷ []) ∷ [])
unfolding play play_from runs after walk at_candidate counted move_on leap new_year days_before_month
example_7 = refl

-- every third year on days 1, 100, 200
example_8 :
    play (raw 0 3 (Some 10) None 0 852109200 (raw_lists [] [] (pos 1 ∷ pos 100 ∷ pos 200 ∷ []) [] [] [] [] [] [] [])) (of 11 10 ∷ [])
    ≡ Ok (told Stop.Ended (at (State.Ended Cause.Count) 3 1 10) 3 10 (852109200 ∷ 860662800 ∷ 869302800 ∷ 946717200 ∷ 955270800 ∷ 963910800 ∷ 1041411600 ∷ 1049965200 ∷ 1058605200 ∷ 1136106000 ∷ 110 ∷ []) ∷ [])
unfolding play play_from runs after walk at_candidate counted move_on leap new_year days_before_month
example_8 = refl

-- second-to-last Monday of the month
example_9 :
    play (raw 1 1 (Some 6) None 0 874918800 (raw_lists [] [] [] [] (negsuc 1 ∷ []) (pos 0 ∷ []) [] [] [] [])) (of 7 10 ∷ [])
    ≡ Ok (told Stop.Ended (at (State.Ended Cause.Count) 5 1 6) 5 6 (874918800 ∷ 877338000 ∷ 879757200 ∷ 882781200 ∷ 885200400 ∷ 887619600 ∷ 106 ∷ []) ∷ [])
unfolding play play_from runs after walk at_candidate counted move_on leap new_year days_before_month
example_9 = refl

-- third-to-last day of the month
example_10 :
    play (raw 1 1 None None 0 875437200 (raw_lists [] (negsuc 2 ∷ []) [] [] [] [] [] [] [] [])) (of 6 10 ∷ [])
    ≡ Ok (told Stop.More (at State.Running 5 1 6) 5 6 (875437200 ∷ 878115600 ∷ 880707600 ∷ 883386000 ∷ 886064400 ∷ 888483600 ∷ []) ∷ [])
unfolding play play_from runs after walk at_candidate counted move_on leap new_year days_before_month
example_10 = refl

-- every other month, first and last Sunday
example_11 :
    play (raw 1 2 (Some 10) None 0 873622800 (raw_lists [] [] [] [] (negsuc 0 ∷ pos 1 ∷ []) (pos 6 ∷ pos 6 ∷ []) [] [] [] [])) (of 11 10 ∷ [])
    ≡ Ok (told Stop.Ended (at (State.Ended Cause.Count) 4 2 10) 4 10 (873622800 ∷ 875437200 ∷ 878461200 ∷ 880880400 ∷ 883904400 ∷ 885718800 ∷ 888742800 ∷ 891162000 ∷ 894186000 ∷ 896605200 ∷ 110 ∷ []) ∷ [])
unfolding play play_from runs after walk at_candidate counted move_on leap new_year days_before_month
example_11 = refl

-- every 18 months on the 10th to 15th
example_12 :
    play (raw 1 18 (Some 10) None 0 873882000 (raw_lists [] (pos 10 ∷ pos 11 ∷ pos 12 ∷ pos 13 ∷ pos 14 ∷ pos 15 ∷ []) [] [] [] [] [] [] [] [])) (of 11 10 ∷ [])
    ≡ Ok (told Stop.Ended (at (State.Ended Cause.Count) 1 4 10) 1 10 (873882000 ∷ 873968400 ∷ 874054800 ∷ 874141200 ∷ 874227600 ∷ 874314000 ∷ 921056400 ∷ 921142800 ∷ 921229200 ∷ 921315600 ∷ 110 ∷ []) ∷ [])
unfolding play play_from runs after walk at_candidate counted move_on leap new_year days_before_month
example_12 = refl

-- yearly in June and July (cut)
example_13 :
    play (raw 0 1 (Some 10) None 0 865933200 (raw_lists (pos 6 ∷ pos 7 ∷ []) [] [] [] [] [] [] [] [] [])) (of 5 10 ∷ [])
    ≡ Ok (told Stop.More (at State.Running 2 1 5) 2 5 (865933200 ∷ 868525200 ∷ 897469200 ∷ 900061200 ∷ 929005200 ∷ []) ∷ [])
unfolding play play_from runs after walk at_candidate counted move_on leap new_year days_before_month
example_13 = refl

-- every 3 hours until 17:00
example_14 :
    play (raw 4 3 None (Some 873219600) 0 873190800 (raw_lists [] [] [] [] [] [] [] [] [] [])) (of 5 10 ∷ [])
    ≡ Ok (told Stop.Ended (at (State.Ended Cause.Until) 3 0 3) 3 3 (873190800 ∷ 873201600 ∷ 873212400 ∷ 103 ∷ 104 ∷ []) ∷ [])
unfolding play play_from runs after walk at_candidate counted move_on leap new_year days_before_month
example_14 = refl

-- every 15 minutes, 6 times
example_15 :
    play (raw 5 15 (Some 6) None 0 873190800 (raw_lists [] [] [] [] [] [] [] [] [] [])) (of 7 10 ∷ [])
    ≡ Ok (told Stop.Ended (at (State.Ended Cause.Count) 5 1 6) 5 6 (873190800 ∷ 873191700 ∷ 873192600 ∷ 873193500 ∷ 873194400 ∷ 873195300 ∷ 106 ∷ []) ∷ [])
unfolding play play_from runs after walk at_candidate counted move_on leap new_year days_before_month
example_15 = refl

-- every hour and a half, 4 times
example_16 :
    play (raw 5 90 (Some 4) None 0 873190800 (raw_lists [] [] [] [] [] [] [] [] [] [])) (of 5 10 ∷ [])
    ≡ Ok (told Stop.Ended (at (State.Ended Cause.Count) 3 1 4) 3 4 (873190800 ∷ 873196200 ∷ 873201600 ∷ 873207000 ∷ 104 ∷ []) ∷ [])
unfolding play play_from runs after walk at_candidate counted move_on leap new_year days_before_month
example_16 = refl

-- every 20 minutes from 9 to 16:40, DAILY
example_17a :
    play (raw 3 1 None None 0 873190800 (raw_lists [] [] [] [] [] [] (pos 9 ∷ pos 10 ∷ pos 11 ∷ pos 12 ∷ pos 13 ∷ pos 14 ∷ pos 15 ∷ pos 16 ∷ []) (pos 0 ∷ pos 20 ∷ pos 40 ∷ []) [] [])) (of 26 10 ∷ [])
    ≡ Ok (told Stop.More (at State.Running 1 2 26) 1 26 (873190800 ∷ 873192000 ∷ 873193200 ∷ 873194400 ∷ 873195600 ∷ 873196800 ∷ 873198000 ∷ 873199200 ∷ 873200400 ∷ 873201600 ∷ 873202800 ∷ 873204000 ∷ 873205200 ∷ 873206400 ∷ 873207600 ∷ 873208800 ∷ 873210000 ∷ 873211200 ∷ 873212400 ∷ 873213600 ∷ 873214800 ∷ 873216000 ∷ 873217200 ∷ 873218400 ∷ 873277200 ∷ 873278400 ∷ []) ∷ [])
unfolding play play_from runs after walk at_candidate counted move_on leap new_year days_before_month
example_17a = refl

-- the same MINUTELY;INTERVAL=20
example_17b :
    play (raw 5 20 None None 0 873190800 (raw_lists [] [] [] [] [] [] (pos 9 ∷ pos 10 ∷ pos 11 ∷ pos 12 ∷ pos 13 ∷ pos 14 ∷ pos 15 ∷ pos 16 ∷ []) [] [] [])) (of 26 40 ∷ [])
    ≡ Ok (told Stop.More (at State.Running 73 1 26) 25 26 (873190800 ∷ 873192000 ∷ 873193200 ∷ 873194400 ∷ 873195600 ∷ 873196800 ∷ 873198000 ∷ 873199200 ∷ 873200400 ∷ 873201600 ∷ 873202800 ∷ 873204000 ∷ 873205200 ∷ 873206400 ∷ 873207600 ∷ 873208800 ∷ 873210000 ∷ 873211200 ∷ 873212400 ∷ 873213600 ∷ 873214800 ∷ 873216000 ∷ 873217200 ∷ 873218400 ∷ 873277200 ∷ 873278400 ∷ []) ∷ [])
unfolding play play_from runs after walk at_candidate counted move_on leap new_year days_before_month
example_17b = refl

-- an invalid date (30 February) is ignored
example_18 :
    play (raw 1 1 (Some 5) None 0 1168851600 (raw_lists [] (pos 15 ∷ pos 30 ∷ []) [] [] [] [] [] [] [] [])) (of 6 10 ∷ [])
    ≡ Ok (told Stop.Ended (at (State.Ended Cause.Count) 2 2 5) 2 5 (1168851600 ∷ 1170147600 ∷ 1171530000 ∷ 1173949200 ∷ 1175245200 ∷ 105 ∷ []) ∷ [])
unfolding play play_from runs after walk at_candidate counted move_on leap new_year days_before_month
example_18 = refl

-- every Thursday in March
example_19 :
    play (raw 0 1 None None 0 858243600 (raw_lists (pos 3 ∷ []) [] [] [] (pos 0 ∷ []) (pos 3 ∷ []) [] [] [] [])) (of 4 10 ∷ [])
    ≡ Ok (told Stop.More (at State.Running 1 1 4) 1 4 (858243600 ∷ 858848400 ∷ 859453200 ∷ 889088400 ∷ []) ∷ [])
unfolding play play_from runs after walk at_candidate counted move_on leap new_year days_before_month
example_19 = refl

-- every other week on MO, WE, FR until 1997-12-24, cut at 30 September
example_20 :
    play (raw 2 2 None (Some 875610000) 6 873104400 (raw_lists [] [] [] [] (pos 0 ∷ pos 0 ∷ pos 0 ∷ []) (pos 0 ∷ pos 2 ∷ pos 4 ∷ []) [] [] [] [])) (of 8 10 ∷ [])
    ≡ Ok (told Stop.Ended (at (State.Ended Cause.Until) 2 1 7) 2 7 (873104400 ∷ 873277200 ∷ 873450000 ∷ 874314000 ∷ 874486800 ∷ 874659600 ∷ 875523600 ∷ 107 ∷ []) ∷ [])
unfolding play play_from runs after walk at_candidate counted move_on leap new_year days_before_month
example_20 = refl
