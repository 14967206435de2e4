-- Each list that may stand with MINUTELY decides. Made by compare/make-grid.
-- Assumes nothing.
use mathlib.Core.Path.{refl}
use mathlib.Core.List.{[], ◌∷◌, ◌++◌}
use lib.IntN.{pos, neg_ℤ}
use Rattle.machine.specs.declared.State.{State}
use Rattle.machine.specs.declared.Stop.{Stop}
use Rattle.rule.specs.Charts.{BYMONTH, BYMONTHDAY, BYYEARDAY, BYDAY, BYHOUR, BYMINUTE, BYSECOND, BYSETPOS, with, told, accepted}
use Rattle.grid.specs.Grid.{holding, Holds}

-- MINUTELY;BYMONTH=2 from 2024-01-31
by_month :
    Holds
    (accepted 5 1706659200 (BYMONTH (pos 2 ∷ []))
    (with 1 1 ∷ [])
    (told Stop.More State.Running 1440 1 1 1 1 (1706745600 ∷ []) ∷ []))
unfolding holding
by_month = refl

-- MINUTELY;BYMONTHDAY=2 from 2024-01-01
by_month_day :
    Holds
    (accepted 5 1704067200 (BYMONTHDAY (pos 2 ∷ []))
    (with 1 1 ∷ [])
    (told Stop.More State.Running 1440 1 1 1 1 (1704153600 ∷ []) ∷ []))
unfolding holding
by_month_day = refl

-- MINUTELY;BYMONTHDAY=-1 from 2024-01-30
by_month_day_from_end :
    Holds
    (accepted 5 1706572800 (BYMONTHDAY (neg_ℤ (pos 1) ∷ []))
    (with 1 1 ∷ [])
    (told Stop.More State.Running 1440 1 1 1 1 (1706659200 ∷ []) ∷ []))
unfolding holding
by_month_day_from_end = refl

-- MINUTELY;BYYEARDAY=2 from 2024-01-01
by_year_day :
    Holds
    (accepted 5 1704067200 (BYYEARDAY (pos 2 ∷ []))
    (with 1 1 ∷ [])
    (told Stop.More State.Running 1440 1 1 1 1 (1704153600 ∷ []) ∷ []))
unfolding holding
by_year_day = refl

-- MINUTELY;BYYEARDAY=-1 from 2024-12-30
by_year_day_from_end :
    Holds
    (accepted 5 1735516800 (BYYEARDAY (neg_ℤ (pos 1) ∷ []))
    (with 1 1 ∷ [])
    (told Stop.More State.Running 1440 1 1 1 1 (1735603200 ∷ []) ∷ []))
unfolding holding
by_year_day_from_end = refl

-- MINUTELY;BYDAY=TU from 2024-01-01
by_day :
    Holds
    (accepted 5 1704067200 (BYDAY (pos 0 ∷ []) (pos 1 ∷ []))
    (with 1 1 ∷ [])
    (told Stop.More State.Running 1440 1 1 1 1 (1704153600 ∷ []) ∷ []))
unfolding holding
by_day = refl

-- MINUTELY;BYHOUR=5 from 2024-01-01 04:58:00
by_hour :
    Holds
    (accepted 5 1704085080 (BYHOUR (pos 5 ∷ []))
    (with 1 1 ∷ [])
    (told Stop.More State.Running 2 1 1 1 1 (1704085200 ∷ []) ∷ []))
unfolding holding
by_hour = refl

-- MINUTELY;BYMINUTE=5 from 2024-01-01 00:03:00
by_minute :
    Holds
    (accepted 5 1704067380 (BYMINUTE (pos 5 ∷ []))
    (with 1 1 ∷ [])
    (told Stop.More State.Running 2 1 1 1 1 (1704067500 ∷ []) ∷ []))
unfolding holding
by_minute = refl

-- MINUTELY;BYSECOND=5 from 2024-01-01
by_second :
    Holds
    (accepted 5 1704067200 (BYSECOND (pos 5 ∷ []))
    (with 2 0 ∷ [])
    (told Stop.Limited State.Running 0 1 1 0 1 (1704067205 ∷ 9223372036854775806 ∷ []) ∷ []))
unfolding holding
by_second = refl

-- MINUTELY;BYSECOND=5,6,7;BYSETPOS=2 from 2024-01-01
by_position :
    Holds
    (accepted 5 1704067200 (BYSECOND (pos 5 ∷ pos 6 ∷ pos 7 ∷ []) ++ BYSETPOS (pos 2 ∷ []))
    (with 2 0 ∷ [])
    (told Stop.Limited State.Running 0 1 1 0 1 (1704067206 ∷ 9223372036854775806 ∷ []) ∷ []))
unfolding holding
by_position = refl

-- MINUTELY;BYSECOND=5,6,7;BYSETPOS=-1 from 2024-01-01
by_position_from_end :
    Holds
    (accepted 5 1704067200 (BYSECOND (pos 5 ∷ pos 6 ∷ pos 7 ∷ []) ++ BYSETPOS (neg_ℤ (pos 1) ∷ []))
    (with 2 0 ∷ [])
    (told Stop.Limited State.Running 0 1 1 0 1 (1704067207 ∷ 9223372036854775806 ∷ []) ∷ []))
unfolding holding
by_position_from_end = refl
