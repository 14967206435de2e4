-- Each list that may stand with HOURLY decides. Made by compare/make-grid.
-- Assumes nothing.
use mathlib.Core.Path.{refl}
use mathlib.Core.List.{[], ◌∷◌, ◌++◌}
use lib.IntN.{pos, neg_ℤ}
use Rattle.machine.specs.declared.State.{State}
use Rattle.machine.specs.declared.Stop.{Stop}
use Rattle.rule.specs.Charts.{BYMONTH, BYMONTHDAY, BYYEARDAY, BYDAY, BYHOUR, BYMINUTE, BYSECOND, BYSETPOS, with, told, accepted}
use Rattle.grid.specs.Grid.{holding, Holds}

-- HOURLY;BYMONTH=2 from 2024-01-31
by_month :
    Holds
    (accepted 4 1706659200 (BYMONTH (pos 2 ∷ []))
    (with 1 1 ∷ [])
    (told Stop.More State.Running 24 1 1 1 1 (1706745600 ∷ []) ∷ []))
unfolding holding
by_month = refl

-- HOURLY;BYMONTHDAY=2 from 2024-01-01
by_month_day :
    Holds
    (accepted 4 1704067200 (BYMONTHDAY (pos 2 ∷ []))
    (with 1 1 ∷ [])
    (told Stop.More State.Running 24 1 1 1 1 (1704153600 ∷ []) ∷ []))
unfolding holding
by_month_day = refl

-- HOURLY;BYMONTHDAY=-1 from 2024-01-30
by_month_day_from_end :
    Holds
    (accepted 4 1706572800 (BYMONTHDAY (neg_ℤ (pos 1) ∷ []))
    (with 1 1 ∷ [])
    (told Stop.More State.Running 24 1 1 1 1 (1706659200 ∷ []) ∷ []))
unfolding holding
by_month_day_from_end = refl

-- HOURLY;BYYEARDAY=2 from 2024-01-01
by_year_day :
    Holds
    (accepted 4 1704067200 (BYYEARDAY (pos 2 ∷ []))
    (with 1 1 ∷ [])
    (told Stop.More State.Running 24 1 1 1 1 (1704153600 ∷ []) ∷ []))
unfolding holding
by_year_day = refl

-- HOURLY;BYYEARDAY=-1 from 2024-12-30
by_year_day_from_end :
    Holds
    (accepted 4 1735516800 (BYYEARDAY (neg_ℤ (pos 1) ∷ []))
    (with 1 1 ∷ [])
    (told Stop.More State.Running 24 1 1 1 1 (1735603200 ∷ []) ∷ []))
unfolding holding
by_year_day_from_end = refl

-- HOURLY;BYDAY=TU from 2024-01-01
by_day :
    Holds
    (accepted 4 1704067200 (BYDAY (pos 0 ∷ []) (pos 1 ∷ []))
    (with 1 1 ∷ [])
    (told Stop.More State.Running 24 1 1 1 1 (1704153600 ∷ []) ∷ []))
unfolding holding
by_day = refl

-- HOURLY;BYHOUR=5 from 2024-01-01 03:00:00
by_hour :
    Holds
    (accepted 4 1704078000 (BYHOUR (pos 5 ∷ []))
    (with 1 1 ∷ [])
    (told Stop.More State.Running 2 1 1 1 1 (1704085200 ∷ []) ∷ []))
unfolding holding
by_hour = refl

-- HOURLY;BYMINUTE=5 from 2024-01-01
by_minute :
    Holds
    (accepted 4 1704067200 (BYMINUTE (pos 5 ∷ []))
    (with 2 0 ∷ [])
    (told Stop.Limited State.Running 0 1 1 0 1 (1704067500 ∷ 9223372036854775806 ∷ []) ∷ []))
unfolding holding
by_minute = refl

-- HOURLY;BYSECOND=5 from 2024-01-01
by_second :
    Holds
    (accepted 4 1704067200 (BYSECOND (pos 5 ∷ []))
    (with 2 0 ∷ [])
    (told Stop.Limited State.Running 0 1 1 0 1 (1704067205 ∷ 9223372036854775806 ∷ []) ∷ []))
unfolding holding
by_second = refl

-- HOURLY;BYMINUTE=5,6,7;BYSETPOS=2 from 2024-01-01
by_position :
    Holds
    (accepted 4 1704067200 (BYMINUTE (pos 5 ∷ pos 6 ∷ pos 7 ∷ []) ++ BYSETPOS (pos 2 ∷ []))
    (with 2 0 ∷ [])
    (told Stop.Limited State.Running 0 1 1 0 1 (1704067560 ∷ 9223372036854775806 ∷ []) ∷ []))
unfolding holding
by_position = refl

-- HOURLY;BYMINUTE=5,6,7;BYSETPOS=-1 from 2024-01-01
by_position_from_end :
    Holds
    (accepted 4 1704067200 (BYMINUTE (pos 5 ∷ pos 6 ∷ pos 7 ∷ []) ++ BYSETPOS (neg_ℤ (pos 1) ∷ []))
    (with 2 0 ∷ [])
    (told Stop.Limited State.Running 0 1 1 0 1 (1704067620 ∷ 9223372036854775806 ∷ []) ∷ []))
unfolding holding
by_position_from_end = refl
