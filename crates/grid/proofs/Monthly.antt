-- Each list that may stand with MONTHLY decides. Made by compare/make-grid.
-- Assumes nothing.
use mathlib.Core.Path.{refl}
use mathlib.Core.List.{[], ◌∷◌, ◌++◌}
use lib.IntN.{pos, neg_ℤ}
use Rattle.machine.specs.declared.State.{State}
use Rattle.machine.specs.declared.Stop.{Stop}
use Rattle.rule.specs.Charts.{BYMONTH, BYMONTHDAY, BYDAY, BYHOUR, BYMINUTE, BYSECOND, BYSETPOS, with, told, accepted}
use Rattle.grid.specs.Grid.{holding, Holds}

-- MONTHLY;BYMONTH=3 from 2024-01-01
by_month :
    Holds
    (accepted 1 1704067200 (BYMONTH (pos 3 ∷ []))
    (with 1 2 ∷ [])
    (told Stop.More State.Running 2 1 1 2 1 (1709251200 ∷ []) ∷ []))
unfolding holding
by_month = refl

-- MONTHLY;BYMONTHDAY=15 from 2024-01-01
by_month_day :
    Holds
    (accepted 1 1704067200 (BYMONTHDAY (pos 15 ∷ []))
    (with 2 0 ∷ [])
    (told Stop.Limited State.Running 0 1 1 0 1 (1705276800 ∷ 9223372036854775806 ∷ []) ∷ []))
unfolding holding
by_month_day = refl

-- MONTHLY;BYMONTHDAY=-1 from 2024-01-01
by_month_day_from_end :
    Holds
    (accepted 1 1704067200 (BYMONTHDAY (neg_ℤ (pos 1) ∷ []))
    (with 2 0 ∷ [])
    (told Stop.Limited State.Running 0 1 1 0 1 (1706659200 ∷ 9223372036854775806 ∷ []) ∷ []))
unfolding holding
by_month_day_from_end = refl

-- MONTHLY;BYDAY=TU from 2024-01-01
by_day :
    Holds
    (accepted 1 1704067200 (BYDAY (pos 0 ∷ []) (pos 1 ∷ []))
    (with 2 0 ∷ [])
    (told Stop.More State.Running 0 2 2 0 2 (1704153600 ∷ 1704758400 ∷ []) ∷ []))
unfolding holding
by_day = refl

-- MONTHLY;BYDAY=2TU from 2024-02-01
nth_of_month :
    Holds
    (accepted 1 1706745600 (BYDAY (pos 2 ∷ []) (pos 1 ∷ []))
    (with 2 0 ∷ [])
    (told Stop.Limited State.Running 0 1 1 0 1 (1707782400 ∷ 9223372036854775806 ∷ []) ∷ []))
unfolding holding
nth_of_month = refl

-- MONTHLY;BYDAY=-1TU from 2024-02-01
nth_of_month_from_end :
    Holds
    (accepted 1 1706745600 (BYDAY (neg_ℤ (pos 1) ∷ []) (pos 1 ∷ []))
    (with 2 0 ∷ [])
    (told Stop.Limited State.Running 0 1 1 0 1 (1708992000 ∷ 9223372036854775806 ∷ []) ∷ []))
unfolding holding
nth_of_month_from_end = refl

-- MONTHLY;BYHOUR=5 from 2024-01-01
by_hour :
    Holds
    (accepted 1 1704067200 (BYHOUR (pos 5 ∷ []))
    (with 2 0 ∷ [])
    (told Stop.Limited State.Running 0 1 1 0 1 (1704085200 ∷ 9223372036854775806 ∷ []) ∷ []))
unfolding holding
by_hour = refl

-- MONTHLY;BYMINUTE=5 from 2024-01-01
by_minute :
    Holds
    (accepted 1 1704067200 (BYMINUTE (pos 5 ∷ []))
    (with 2 0 ∷ [])
    (told Stop.Limited State.Running 0 1 1 0 1 (1704067500 ∷ 9223372036854775806 ∷ []) ∷ []))
unfolding holding
by_minute = refl

-- MONTHLY;BYSECOND=5 from 2024-01-01
by_second :
    Holds
    (accepted 1 1704067200 (BYSECOND (pos 5 ∷ []))
    (with 2 0 ∷ [])
    (told Stop.Limited State.Running 0 1 1 0 1 (1704067205 ∷ 9223372036854775806 ∷ []) ∷ []))
unfolding holding
by_second = refl

-- MONTHLY;BYDAY=TU;BYSETPOS=2 from 2024-01-01
by_position :
    Holds
    (accepted 1 1704067200 (BYDAY (pos 0 ∷ []) (pos 1 ∷ []) ++ BYSETPOS (pos 2 ∷ []))
    (with 2 0 ∷ [])
    (told Stop.Limited State.Running 0 1 1 0 1 (1704758400 ∷ 9223372036854775806 ∷ []) ∷ []))
unfolding holding
by_position = refl

-- MONTHLY;BYDAY=TU;BYSETPOS=-1 from 2024-01-01
by_position_from_end :
    Holds
    (accepted 1 1704067200 (BYDAY (pos 0 ∷ []) (pos 1 ∷ []) ++ BYSETPOS (neg_ℤ (pos 1) ∷ []))
    (with 2 0 ∷ [])
    (told Stop.Limited State.Running 0 1 1 0 1 (1706572800 ∷ 9223372036854775806 ∷ []) ∷ []))
unfolding holding
by_position_from_end = refl
