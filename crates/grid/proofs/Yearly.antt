-- Each list at YEARLY decides: without it the answer is another. Made by compare/make-grid.
-- Assumes nothing.
use mathlib.Core.Path.{refl}
use mathlib.Core.List.{[], ◌∷◌, ◌++◌}
use lib.IntN.{pos, neg_ℤ}
use Rattle.machine.specs.declared.State.{State}
use Rattle.machine.specs.declared.Stop.{Stop}
use Rattle.rule.specs.Charts.{BYMONTH, BYMONTHDAY, BYYEARDAY, BYWEEKNO, BYDAY, BYHOUR, BYMINUTE, BYSECOND, BYSETPOS, with, told, accepted}
use Rattle.grid.specs.Grid.{holding, Holds}

-- YEARLY;BYMONTH=3,4 from 2024-01-01
by_month :
    Holds
    (accepted 0 1704067200 (BYMONTH (pos 3 ∷ pos 4 ∷ []))
    (with 2 0 ∷ [])
    (told Stop.More State.Running 0 2 2 0 2 (1709251200 ∷ 1711929600 ∷ []) ∷ []))
unfolding holding
by_month = refl

-- YEARLY;BYMONTHDAY=15 from 2024-01-01
by_month_day :
    Holds
    (accepted 0 1704067200 (BYMONTHDAY (pos 15 ∷ []))
    (with 2 0 ∷ [])
    (told Stop.More State.Running 0 2 2 0 2 (1705276800 ∷ 1707955200 ∷ []) ∷ []))
unfolding holding
by_month_day = refl

-- YEARLY;BYMONTHDAY=-1 from 2024-01-01
by_month_day_from_end :
    Holds
    (accepted 0 1704067200 (BYMONTHDAY (neg_ℤ (pos 1) ∷ []))
    (with 2 0 ∷ [])
    (told Stop.More State.Running 0 2 2 0 2 (1706659200 ∷ 1709164800 ∷ []) ∷ []))
unfolding holding
by_month_day_from_end = refl

-- YEARLY;BYYEARDAY=33,61 from 2024-01-01
by_year_day :
    Holds
    (accepted 0 1704067200 (BYYEARDAY (pos 33 ∷ pos 61 ∷ []))
    (with 2 0 ∷ [])
    (told Stop.More State.Running 0 2 2 0 2 (1706832000 ∷ 1709251200 ∷ []) ∷ []))
unfolding holding
by_year_day = refl

-- YEARLY;BYYEARDAY=-2,-1 from 2024-01-01
by_year_day_from_end :
    Holds
    (accepted 0 1704067200 (BYYEARDAY (neg_ℤ (pos 2) ∷ neg_ℤ (pos 1) ∷ []))
    (with 2 0 ∷ [])
    (told Stop.More State.Running 0 2 2 0 2 (1735516800 ∷ 1735603200 ∷ []) ∷ []))
unfolding holding
by_year_day_from_end = refl

-- YEARLY;BYWEEKNO=3 from 2024-01-01
by_week_number :
    Holds
    (accepted 0 1704067200 (BYWEEKNO (pos 3 ∷ []))
    (with 2 0 ∷ [])
    (told Stop.More State.Running 0 2 2 0 2 (1705276800 ∷ 1705363200 ∷ []) ∷ []))
unfolding holding
by_week_number = refl

-- YEARLY;BYWEEKNO=-1 from 2024-01-01
by_week_number_from_end :
    Holds
    (accepted 0 1704067200 (BYWEEKNO (neg_ℤ (pos 1) ∷ []))
    (with 2 0 ∷ [])
    (told Stop.More State.Running 0 2 2 0 2 (1734912000 ∷ 1734998400 ∷ []) ∷ []))
unfolding holding
by_week_number_from_end = refl

-- YEARLY;BYDAY=TU from 2024-01-01
by_day :
    Holds
    (accepted 0 1704067200 (BYDAY (pos 0 ∷ []) (pos 1 ∷ []))
    (with 2 0 ∷ [])
    (told Stop.More State.Running 0 2 2 0 2 (1704153600 ∷ 1704758400 ∷ []) ∷ []))
unfolding holding
by_day = refl

-- YEARLY;BYDAY=6TU from 2024-01-01
nth_of_year :
    Holds
    (accepted 0 1704067200 (BYDAY (pos 6 ∷ []) (pos 1 ∷ []))
    (with 2 0 ∷ [])
    (told Stop.Limited State.Running 0 1 1 0 1 (1707177600 ∷ 9223372036854775806 ∷ []) ∷ []))
unfolding holding
nth_of_year = refl

-- YEARLY;BYDAY=-6TU from 2024-01-01
nth_of_year_from_end :
    Holds
    (accepted 0 1704067200 (BYDAY (neg_ℤ (pos 6) ∷ []) (pos 1 ∷ []))
    (with 2 0 ∷ [])
    (told Stop.Limited State.Running 0 1 1 0 1 (1732579200 ∷ 9223372036854775806 ∷ []) ∷ []))
unfolding holding
nth_of_year_from_end = refl

-- YEARLY;BYMONTH=2;BYDAY=2TU from 2024-01-01
nth_of_month :
    Holds
    (accepted 0 1704067200 (BYMONTH (pos 2 ∷ []) ++ BYDAY (pos 2 ∷ []) (pos 1 ∷ []))
    (with 2 0 ∷ [])
    (told Stop.Limited State.Running 0 1 1 0 1 (1707782400 ∷ 9223372036854775806 ∷ []) ∷ []))
unfolding holding
nth_of_month = refl

-- YEARLY;BYMONTH=2;BYDAY=-1TU from 2024-01-01
nth_of_month_from_end :
    Holds
    (accepted 0 1704067200 (BYMONTH (pos 2 ∷ []) ++ BYDAY (neg_ℤ (pos 1) ∷ []) (pos 1 ∷ []))
    (with 2 0 ∷ [])
    (told Stop.Limited State.Running 0 1 1 0 1 (1708992000 ∷ 9223372036854775806 ∷ []) ∷ []))
unfolding holding
nth_of_month_from_end = refl

-- YEARLY;BYHOUR=5 from 2024-01-01
by_hour :
    Holds
    (accepted 0 1704067200 (BYHOUR (pos 5 ∷ []))
    (with 2 0 ∷ [])
    (told Stop.Limited State.Running 0 1 1 0 1 (1704085200 ∷ 9223372036854775806 ∷ []) ∷ []))
unfolding holding
by_hour = refl

-- YEARLY;BYMINUTE=5 from 2024-01-01
by_minute :
    Holds
    (accepted 0 1704067200 (BYMINUTE (pos 5 ∷ []))
    (with 2 0 ∷ [])
    (told Stop.Limited State.Running 0 1 1 0 1 (1704067500 ∷ 9223372036854775806 ∷ []) ∷ []))
unfolding holding
by_minute = refl

-- YEARLY;BYSECOND=5 from 2024-01-01
by_second :
    Holds
    (accepted 0 1704067200 (BYSECOND (pos 5 ∷ []))
    (with 2 0 ∷ [])
    (told Stop.Limited State.Running 0 1 1 0 1 (1704067205 ∷ 9223372036854775806 ∷ []) ∷ []))
unfolding holding
by_second = refl

-- YEARLY;BYMONTHDAY=15;BYSETPOS=2 from 2024-01-01
by_position :
    Holds
    (accepted 0 1704067200 (BYMONTHDAY (pos 15 ∷ []) ++ BYSETPOS (pos 2 ∷ []))
    (with 2 0 ∷ [])
    (told Stop.Limited State.Running 0 1 1 0 1 (1707955200 ∷ 9223372036854775806 ∷ []) ∷ []))
unfolding holding
by_position = refl

-- YEARLY;BYMONTHDAY=15;BYSETPOS=-1 from 2024-01-01
by_position_from_end :
    Holds
    (accepted 0 1704067200 (BYMONTHDAY (pos 15 ∷ []) ++ BYSETPOS (neg_ℤ (pos 1) ∷ []))
    (with 2 0 ∷ [])
    (told Stop.Limited State.Running 0 1 1 0 1 (1734220800 ∷ 9223372036854775806 ∷ []) ∷ []))
unfolding holding
by_position_from_end = refl
