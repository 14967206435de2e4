-- A cursor at each bound of the well-formed ones, and one beyond it. Made by compare/make-grid.
-- Assumes nothing.
use mathlib.Core.Path.{refl}
use mathlib.Core.List.{[], ◌∷◌, ◌++◌}
use lib.IntN.{pos}
use Rattle.machine.specs.declared.Cause.{Cause}
use Rattle.machine.specs.declared.State.{State}
use Rattle.machine.specs.declared.Fault.{Fault}
use Rattle.machine.specs.declared.Stop.{Stop}
use Rattle.rule.specs.Charts.{INTERVAL, COUNT, UNTIL, BYHOUR, BYSETPOS, with, told, accepted}
use Rattle.grid.specs.Grid.{holding_from, HoldsFrom}

-- YEARLY;INTERVAL=2 from 9996-01-01; cursor: k 1
yearly_last :
    HoldsFrom State.Running 1 0 0
    (accepted 0 253276070400 (INTERVAL 2)
    (with 1 0 ∷ [])
    (told Stop.More State.Running 1 1 1 0 1 (253339228800 ∷ []) ∷ []))
unfolding holding_from
yearly_last = refl

-- YEARLY;INTERVAL=2 from 9996-01-01; cursor: k 2
yearly_behind_the_last :
    HoldsFrom State.Running 2 0 0
    (accepted 0 253276070400 (INTERVAL 2)
    (with 1 0 ∷ [])
    (told (Stop.Refused Fault.Cursor) State.Running 2 0 0 0 0 (9223372036854775807 ∷ []) ∷ []))
unfolding holding_from
yearly_behind_the_last = refl

-- MONTHLY;INTERVAL=2 from 9999-09-01; cursor: k 1
monthly_last :
    HoldsFrom State.Running 1 0 0
    (accepted 1 253391760000 (INTERVAL 2)
    (with 1 0 ∷ [])
    (told Stop.More State.Running 1 1 1 0 1 (253397030400 ∷ []) ∷ []))
unfolding holding_from
monthly_last = refl

-- MONTHLY;INTERVAL=2 from 9999-09-01; cursor: k 2
monthly_behind_the_last :
    HoldsFrom State.Running 2 0 0
    (accepted 1 253391760000 (INTERVAL 2)
    (with 1 0 ∷ [])
    (told (Stop.Refused Fault.Cursor) State.Running 2 0 0 0 0 (9223372036854775807 ∷ []) ∷ []))
unfolding holding_from
monthly_behind_the_last = refl

-- WEEKLY;INTERVAL=2 from 9999-12-13; cursor: k 1
weekly_last :
    HoldsFrom State.Running 1 0 0
    (accepted 2 253400659200 (INTERVAL 2)
    (with 1 0 ∷ [])
    (told Stop.More State.Running 1 1 1 0 1 (253401868800 ∷ []) ∷ []))
unfolding holding_from
weekly_last = refl

-- WEEKLY;INTERVAL=2 from 9999-12-13; cursor: k 2
weekly_behind_the_last :
    HoldsFrom State.Running 2 0 0
    (accepted 2 253400659200 (INTERVAL 2)
    (with 1 0 ∷ [])
    (told (Stop.Refused Fault.Cursor) State.Running 2 0 0 0 0 (9223372036854775807 ∷ []) ∷ []))
unfolding holding_from
weekly_behind_the_last = refl

-- DAILY;INTERVAL=2 from 9999-12-28; cursor: k 1
daily_last :
    HoldsFrom State.Running 1 0 0
    (accepted 3 253401955200 (INTERVAL 2)
    (with 1 0 ∷ [])
    (told Stop.More State.Running 1 1 1 0 1 (253402128000 ∷ []) ∷ []))
unfolding holding_from
daily_last = refl

-- DAILY;INTERVAL=2 from 9999-12-28; cursor: k 2
daily_behind_the_last :
    HoldsFrom State.Running 2 0 0
    (accepted 3 253401955200 (INTERVAL 2)
    (with 1 0 ∷ [])
    (told (Stop.Refused Fault.Cursor) State.Running 2 0 0 0 0 (9223372036854775807 ∷ []) ∷ []))
unfolding holding_from
daily_behind_the_last = refl

-- HOURLY;INTERVAL=2 from 9999-12-31 20:00:00; cursor: k 1
hourly_last :
    HoldsFrom State.Running 1 0 0
    (accepted 4 253402286400 (INTERVAL 2)
    (with 1 0 ∷ [])
    (told Stop.More State.Running 1 1 1 0 1 (253402293600 ∷ []) ∷ []))
unfolding holding_from
hourly_last = refl

-- HOURLY;INTERVAL=2 from 9999-12-31 20:00:00; cursor: k 2
hourly_behind_the_last :
    HoldsFrom State.Running 2 0 0
    (accepted 4 253402286400 (INTERVAL 2)
    (with 1 0 ∷ [])
    (told (Stop.Refused Fault.Cursor) State.Running 2 0 0 0 0 (9223372036854775807 ∷ []) ∷ []))
unfolding holding_from
hourly_behind_the_last = refl

-- MINUTELY;INTERVAL=2 from 9999-12-31 23:56:00; cursor: k 1
minutely_last :
    HoldsFrom State.Running 1 0 0
    (accepted 5 253402300560 (INTERVAL 2)
    (with 1 0 ∷ [])
    (told Stop.More State.Running 1 1 1 0 1 (253402300680 ∷ []) ∷ []))
unfolding holding_from
minutely_last = refl

-- MINUTELY;INTERVAL=2 from 9999-12-31 23:56:00; cursor: k 2
minutely_behind_the_last :
    HoldsFrom State.Running 2 0 0
    (accepted 5 253402300560 (INTERVAL 2)
    (with 1 0 ∷ [])
    (told (Stop.Refused Fault.Cursor) State.Running 2 0 0 0 0 (9223372036854775807 ∷ []) ∷ []))
unfolding holding_from
minutely_behind_the_last = refl

-- SECONDLY;INTERVAL=2 from 9999-12-31 23:59:57; cursor: k 1
secondly_last :
    HoldsFrom State.Running 1 0 0
    (accepted 6 253402300797 (INTERVAL 2)
    (with 1 0 ∷ [])
    (told Stop.More State.Running 1 1 1 0 1 (253402300799 ∷ []) ∷ []))
unfolding holding_from
secondly_last = refl

-- SECONDLY;INTERVAL=2 from 9999-12-31 23:59:57; cursor: k 2
secondly_behind_the_last :
    HoldsFrom State.Running 2 0 0
    (accepted 6 253402300797 (INTERVAL 2)
    (with 1 0 ∷ [])
    (told (Stop.Refused Fault.Cursor) State.Running 2 0 0 0 0 (9223372036854775807 ∷ []) ∷ []))
unfolding holding_from
secondly_behind_the_last = refl

-- DAILY;INTERVAL=2 from 2024-01-01; cursor: k 9223372036854775808
k_without_wrapping :
    HoldsFrom State.Running 9223372036854775808 0 0
    (accepted 3 1704067200 (INTERVAL 2)
    (with 1 0 ∷ [])
    (told (Stop.Refused Fault.Cursor) State.Running 9223372036854775808 0 0 0 0 (9223372036854775807 ∷ []) ∷ []))
unfolding holding_from
k_without_wrapping = refl

-- DAILY;INTERVAL=2;BYHOUR=5,6,7 from 2024-01-01; cursor: place 3
all_passed :
    HoldsFrom State.Running 0 3 0
    (accepted 3 1704067200 (INTERVAL 2 ++ BYHOUR (pos 5 ∷ pos 6 ∷ pos 7 ∷ []))
    (with 1 0 ∷ [])
    (told Stop.Limited State.Running 0 3 0 0 0 (9223372036854775807 ∷ []) ∷ []))
unfolding holding_from
all_passed = refl

-- DAILY;INTERVAL=2;BYHOUR=5,6,7 from 2024-01-01; cursor: place 4
passed_beyond :
    HoldsFrom State.Running 0 4 0
    (accepted 3 1704067200 (INTERVAL 2 ++ BYHOUR (pos 5 ∷ pos 6 ∷ pos 7 ∷ []))
    (with 1 0 ∷ [])
    (told (Stop.Refused Fault.Cursor) State.Running 0 4 0 0 0 (9223372036854775807 ∷ []) ∷ []))
unfolding holding_from
passed_beyond = refl

-- DAILY;INTERVAL=2;BYHOUR=5,6,7;BYSETPOS=2 from 2024-01-01; cursor: place 1
kept_passed :
    HoldsFrom State.Running 0 1 0
    (accepted 3 1704067200 (INTERVAL 2 ++ BYHOUR (pos 5 ∷ pos 6 ∷ pos 7 ∷ []) ++ BYSETPOS (pos 2 ∷ []))
    (with 1 0 ∷ [])
    (told Stop.Limited State.Running 0 1 0 0 0 (9223372036854775807 ∷ []) ∷ []))
unfolding holding_from
kept_passed = refl

-- DAILY;INTERVAL=2;BYHOUR=5,6,7;BYSETPOS=2 from 2024-01-01; cursor: place 2
kept_passed_beyond :
    HoldsFrom State.Running 0 2 0
    (accepted 3 1704067200 (INTERVAL 2 ++ BYHOUR (pos 5 ∷ pos 6 ∷ pos 7 ∷ []) ++ BYSETPOS (pos 2 ∷ []))
    (with 1 0 ∷ [])
    (told (Stop.Refused Fault.Cursor) State.Running 0 2 0 0 0 (9223372036854775807 ∷ []) ∷ []))
unfolding holding_from
kept_passed_beyond = refl

-- DAILY;INTERVAL=2;COUNT=3 from 2024-01-01; cursor: k 5, number 2
below_count :
    HoldsFrom State.Running 5 0 2
    (accepted 3 1704067200 (INTERVAL 2 ++ COUNT 3)
    (with 1 0 ∷ [])
    (told Stop.Ended (State.Ended Cause.Count) 5 1 3 0 1 (1704931200 ∷ []) ∷ []))
unfolding holding_from
below_count = refl

-- DAILY;INTERVAL=2;COUNT=3 from 2024-01-01; cursor: k 5, number 3
at_count :
    HoldsFrom State.Running 5 0 3
    (accepted 3 1704067200 (INTERVAL 2 ++ COUNT 3)
    (with 1 0 ∷ [])
    (told (Stop.Refused Fault.Cursor) State.Running 5 0 3 0 0 (9223372036854775807 ∷ []) ∷ []))
unfolding holding_from
at_count = refl

-- DAILY;INTERVAL=2;BYHOUR=5,6,7 from 2024-01-01; cursor: k 1, place 1, number 194400
to_next :
    HoldsFrom State.Running 1 1 194400
    (accepted 3 1704067200 (INTERVAL 2 ++ BYHOUR (pos 5 ∷ pos 6 ∷ pos 7 ∷ []))
    (with 1 0 ∷ [])
    (told Stop.More State.Running 1 2 194401 0 1 (1704261600 ∷ []) ∷ []))
unfolding holding_from
to_next = refl

-- DAILY;INTERVAL=2;BYHOUR=5,6,7 from 2024-01-01; cursor: k 1, place 1, number 194401
beyond_next :
    HoldsFrom State.Running 1 1 194401
    (accepted 3 1704067200 (INTERVAL 2 ++ BYHOUR (pos 5 ∷ pos 6 ∷ pos 7 ∷ []))
    (with 1 0 ∷ [])
    (told (Stop.Refused Fault.Cursor) State.Running 1 1 194401 0 0 (9223372036854775807 ∷ []) ∷ []))
unfolding holding_from
beyond_next = refl

-- YEARLY;INTERVAL=2 from 2024-01-01; cursor: place 1, number 31622400
to_year_end :
    HoldsFrom State.Running 0 1 31622400
    (accepted 0 1704067200 (INTERVAL 2)
    (with 1 0 ∷ [])
    (told Stop.Limited State.Running 0 1 31622400 0 0 (9223372036854775807 ∷ []) ∷ []))
unfolding holding_from
to_year_end = refl

-- YEARLY;INTERVAL=2 from 2024-01-01; cursor: place 1, number 31622401
beyond_year_end :
    HoldsFrom State.Running 0 1 31622401
    (accepted 0 1704067200 (INTERVAL 2)
    (with 1 0 ∷ [])
    (told (Stop.Refused Fault.Cursor) State.Running 0 1 31622401 0 0 (9223372036854775807 ∷ []) ∷ []))
unfolding holding_from
beyond_year_end = refl

-- MONTHLY;INTERVAL=2 from 2024-01-01; cursor: place 1, number 2678400
to_month_end :
    HoldsFrom State.Running 0 1 2678400
    (accepted 1 1704067200 (INTERVAL 2)
    (with 1 0 ∷ [])
    (told Stop.Limited State.Running 0 1 2678400 0 0 (9223372036854775807 ∷ []) ∷ []))
unfolding holding_from
to_month_end = refl

-- MONTHLY;INTERVAL=2 from 2024-01-01; cursor: place 1, number 2678401
beyond_month_end :
    HoldsFrom State.Running 0 1 2678401
    (accepted 1 1704067200 (INTERVAL 2)
    (with 1 0 ∷ [])
    (told (Stop.Refused Fault.Cursor) State.Running 0 1 2678401 0 0 (9223372036854775807 ∷ []) ∷ []))
unfolding holding_from
beyond_month_end = refl

-- WEEKLY;INTERVAL=2 from 2024-01-01; cursor: place 1, number 604800
to_week_end :
    HoldsFrom State.Running 0 1 604800
    (accepted 2 1704067200 (INTERVAL 2)
    (with 1 0 ∷ [])
    (told Stop.Limited State.Running 0 1 604800 0 0 (9223372036854775807 ∷ []) ∷ []))
unfolding holding_from
to_week_end = refl

-- WEEKLY;INTERVAL=2 from 2024-01-01; cursor: place 1, number 604801
beyond_week_end :
    HoldsFrom State.Running 0 1 604801
    (accepted 2 1704067200 (INTERVAL 2)
    (with 1 0 ∷ [])
    (told (Stop.Refused Fault.Cursor) State.Running 0 1 604801 0 0 (9223372036854775807 ∷ []) ∷ []))
unfolding holding_from
beyond_week_end = refl

-- WEEKLY;INTERVAL=2 from 9999-12-27; cursor: place 1, number 432000
to_last_week_end :
    HoldsFrom State.Running 0 1 432000
    (accepted 2 253401868800 (INTERVAL 2)
    (with 1 0 ∷ [])
    (told Stop.Limited State.Running 0 1 432000 0 0 (9223372036854775807 ∷ []) ∷ []))
unfolding holding_from
to_last_week_end = refl

-- WEEKLY;INTERVAL=2 from 9999-12-27; cursor: place 1, number 432001
beyond_last_week_end :
    HoldsFrom State.Running 0 1 432001
    (accepted 2 253401868800 (INTERVAL 2)
    (with 1 0 ∷ [])
    (told (Stop.Refused Fault.Cursor) State.Running 0 1 432001 0 0 (9223372036854775807 ∷ []) ∷ []))
unfolding holding_from
beyond_last_week_end = refl

-- DAILY;INTERVAL=2 from 2024-01-01; cursor: place 1, number 86400
to_day_end :
    HoldsFrom State.Running 0 1 86400
    (accepted 3 1704067200 (INTERVAL 2)
    (with 1 0 ∷ [])
    (told Stop.Limited State.Running 0 1 86400 0 0 (9223372036854775807 ∷ []) ∷ []))
unfolding holding_from
to_day_end = refl

-- DAILY;INTERVAL=2 from 2024-01-01; cursor: place 1, number 86401
beyond_day_end :
    HoldsFrom State.Running 0 1 86401
    (accepted 3 1704067200 (INTERVAL 2)
    (with 1 0 ∷ [])
    (told (Stop.Refused Fault.Cursor) State.Running 0 1 86401 0 0 (9223372036854775807 ∷ []) ∷ []))
unfolding holding_from
beyond_day_end = refl

-- HOURLY;INTERVAL=2 from 2024-01-01; cursor: place 1, number 3600
to_hour_end :
    HoldsFrom State.Running 0 1 3600
    (accepted 4 1704067200 (INTERVAL 2)
    (with 1 0 ∷ [])
    (told Stop.Limited State.Running 0 1 3600 0 0 (9223372036854775807 ∷ []) ∷ []))
unfolding holding_from
to_hour_end = refl

-- HOURLY;INTERVAL=2 from 2024-01-01; cursor: place 1, number 3601
beyond_hour_end :
    HoldsFrom State.Running 0 1 3601
    (accepted 4 1704067200 (INTERVAL 2)
    (with 1 0 ∷ [])
    (told (Stop.Refused Fault.Cursor) State.Running 0 1 3601 0 0 (9223372036854775807 ∷ []) ∷ []))
unfolding holding_from
beyond_hour_end = refl

-- MINUTELY;INTERVAL=2 from 2024-01-01; cursor: place 1, number 60
to_minute_end :
    HoldsFrom State.Running 0 1 60
    (accepted 5 1704067200 (INTERVAL 2)
    (with 1 0 ∷ [])
    (told Stop.Limited State.Running 0 1 60 0 0 (9223372036854775807 ∷ []) ∷ []))
unfolding holding_from
to_minute_end = refl

-- MINUTELY;INTERVAL=2 from 2024-01-01; cursor: place 1, number 61
beyond_minute_end :
    HoldsFrom State.Running 0 1 61
    (accepted 5 1704067200 (INTERVAL 2)
    (with 1 0 ∷ [])
    (told (Stop.Refused Fault.Cursor) State.Running 0 1 61 0 0 (9223372036854775807 ∷ []) ∷ []))
unfolding holding_from
beyond_minute_end = refl

-- SECONDLY;INTERVAL=2 from 2024-01-01; cursor: place 1, number 1
to_second_end :
    HoldsFrom State.Running 0 1 1
    (accepted 6 1704067200 (INTERVAL 2)
    (with 1 0 ∷ [])
    (told Stop.Limited State.Running 0 1 1 0 0 (9223372036854775807 ∷ []) ∷ []))
unfolding holding_from
to_second_end = refl

-- SECONDLY;INTERVAL=2 from 2024-01-01; cursor: place 1, number 2
beyond_second_end :
    HoldsFrom State.Running 0 1 2
    (accepted 6 1704067200 (INTERVAL 2)
    (with 1 0 ∷ [])
    (told (Stop.Refused Fault.Cursor) State.Running 0 1 2 0 0 (9223372036854775807 ∷ []) ∷ []))
unfolding holding_from
beyond_second_end = refl

-- DAILY;INTERVAL=2;BYHOUR=5 from 2024-01-01 06:00:00; cursor: number 0
none_before_the_start :
    HoldsFrom State.Running 0 0 0
    (accepted 3 1704088800 (INTERVAL 2 ++ BYHOUR (pos 5 ∷ []))
    (with 1 0 ∷ [])
    (told Stop.Limited State.Running 0 1 0 0 0 (9223372036854775807 ∷ []) ∷ []))
unfolding holding_from
none_before_the_start = refl

-- DAILY;INTERVAL=2;BYHOUR=5 from 2024-01-01 06:00:00; cursor: number 1
one_before_the_start :
    HoldsFrom State.Running 0 0 1
    (accepted 3 1704088800 (INTERVAL 2 ++ BYHOUR (pos 5 ∷ []))
    (with 1 0 ∷ [])
    (told (Stop.Refused Fault.Cursor) State.Running 0 0 1 0 0 (9223372036854775807 ∷ []) ∷ []))
unfolding holding_from
one_before_the_start = refl

-- DAILY;INTERVAL=2;UNTIL=2024-01-03 from 2024-01-01; cursor: k 5
past_until :
    HoldsFrom State.Running 5 0 0
    (accepted 3 1704067200 (INTERVAL 2 ++ UNTIL 1704240000)
    (with 1 0 ∷ [])
    (told Stop.Ended (State.Ended Cause.Until) 5 0 0 0 0 (9223372036854775807 ∷ []) ∷ []))
unfolding holding_from
past_until = refl

-- DAILY;INTERVAL=2;COUNT=3 from 2024-01-01; cursor: k 18446744073709551615, place 4294967295, number 18446744073709551615
ended_by_count :
    HoldsFrom (State.Ended Cause.Count) 18446744073709551615 4294967295 18446744073709551615
    (accepted 3 1704067200 (INTERVAL 2 ++ COUNT 3)
    (with 1 0 ∷ [])
    (told Stop.Ended (State.Ended Cause.Count) 18446744073709551615 4294967295 18446744073709551615 0 0 (9223372036854775807 ∷ []) ∷ []))
unfolding holding_from
ended_by_count = refl

-- DAILY;INTERVAL=2;COUNT=3 from 2024-01-01; cursor: k 18446744073709551615, place 4294967295, number 18446744073709551615
ended_by_interval :
    HoldsFrom (State.Ended Cause.Interval) 18446744073709551615 4294967295 18446744073709551615
    (accepted 3 1704067200 (INTERVAL 2 ++ COUNT 3)
    (with 1 0 ∷ [])
    (told Stop.Ended (State.Ended Cause.Interval) 18446744073709551615 4294967295 18446744073709551615 0 0 (9223372036854775807 ∷ []) ∷ []))
unfolding holding_from
ended_by_interval = refl

-- DAILY;INTERVAL=2;COUNT=3 from 2024-01-01; cursor: k 18446744073709551615, place 4294967295, number 18446744073709551615
ended_by_until :
    HoldsFrom (State.Ended Cause.Until) 18446744073709551615 4294967295 18446744073709551615
    (accepted 3 1704067200 (INTERVAL 2 ++ COUNT 3)
    (with 1 0 ∷ [])
    (told Stop.Ended (State.Ended Cause.Until) 18446744073709551615 4294967295 18446744073709551615 0 0 (9223372036854775807 ∷ []) ∷ []))
unfolding holding_from
ended_by_until = refl

-- DAILY;INTERVAL=2;COUNT=3 from 2024-01-01; cursor: k 18446744073709551615, place 4294967295, number 18446744073709551615
ended_by_no_tick :
    HoldsFrom (State.Ended Cause.NoTick) 18446744073709551615 4294967295 18446744073709551615
    (accepted 3 1704067200 (INTERVAL 2 ++ COUNT 3)
    (with 1 0 ∷ [])
    (told Stop.Ended (State.Ended Cause.NoTick) 18446744073709551615 4294967295 18446744073709551615 0 0 (9223372036854775807 ∷ []) ∷ []))
unfolding holding_from
ended_by_no_tick = refl

-- DAILY;INTERVAL=2;COUNT=3 from 2024-01-01; cursor: k 18446744073709551615, place 4294967295, number 18446744073709551615
ended_by_range :
    HoldsFrom (State.Ended Cause.Range) 18446744073709551615 4294967295 18446744073709551615
    (accepted 3 1704067200 (INTERVAL 2 ++ COUNT 3)
    (with 1 0 ∷ [])
    (told Stop.Ended (State.Ended Cause.Range) 18446744073709551615 4294967295 18446744073709551615 0 0 (9223372036854775807 ∷ []) ∷ []))
unfolding holding_from
ended_by_range = refl
