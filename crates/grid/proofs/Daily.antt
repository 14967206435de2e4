-- Each list that may stand with DAILY decides. Made by compare/make-grid.
-- Assumes nothing.
use mathlib.Core.Path.{refl}
use mathlib.Core.List.{[], ◌∷◌, ◌++◌}
use lib.IntN.{pos, neg_ℤ}
use Rattle.machine.specs.declared.State.{State}
use Rattle.machine.specs.declared.Stop.{Stop}
use Rattle.rule.specs.Charts.{BYMONTH, BYMONTHDAY, BYDAY, BYHOUR, BYMINUTE, BYSECOND, BYSETPOS, with, told, accepted}
use Rattle.grid.specs.Grid.{holding, Holds}

-- DAILY;BYMONTH=2 from 2024-01-31
by_month :
    Holds
    (accepted 3 1706659200 (BYMONTH (pos 2 ∷ []))
    (with 1 1 ∷ [])
    (told Stop.More State.Running 1 1 1 1 1 (1706745600 ∷ []) ∷ []))
unfolding holding
by_month = refl

-- DAILY;BYMONTHDAY=2 from 2024-01-01
by_month_day :
    Holds
    (accepted 3 1704067200 (BYMONTHDAY (pos 2 ∷ []))
    (with 1 1 ∷ [])
    (told Stop.More State.Running 1 1 1 1 1 (1704153600 ∷ []) ∷ []))
unfolding holding
by_month_day = refl

-- DAILY;BYMONTHDAY=-1 from 2024-01-30
by_month_day_from_end :
    Holds
    (accepted 3 1706572800 (BYMONTHDAY (neg_ℤ (pos 1) ∷ []))
    (with 1 1 ∷ [])
    (told Stop.More State.Running 1 1 1 1 1 (1706659200 ∷ []) ∷ []))
unfolding holding
by_month_day_from_end = refl

-- DAILY;BYDAY=TU from 2024-01-01
by_day :
    Holds
    (accepted 3 1704067200 (BYDAY (pos 0 ∷ []) (pos 1 ∷ []))
    (with 1 1 ∷ [])
    (told Stop.More State.Running 1 1 1 1 1 (1704153600 ∷ []) ∷ []))
unfolding holding
by_day = refl

-- DAILY;BYHOUR=5 from 2024-01-01
by_hour :
    Holds
    (accepted 3 1704067200 (BYHOUR (pos 5 ∷ []))
    (with 2 0 ∷ [])
    (told Stop.Limited State.Running 0 1 1 0 1 (1704085200 ∷ 9223372036854775806 ∷ []) ∷ []))
unfolding holding
by_hour = refl

-- DAILY;BYMINUTE=5 from 2024-01-01
by_minute :
    Holds
    (accepted 3 1704067200 (BYMINUTE (pos 5 ∷ []))
    (with 2 0 ∷ [])
    (told Stop.Limited State.Running 0 1 1 0 1 (1704067500 ∷ 9223372036854775806 ∷ []) ∷ []))
unfolding holding
by_minute = refl

-- DAILY;BYSECOND=5 from 2024-01-01
by_second :
    Holds
    (accepted 3 1704067200 (BYSECOND (pos 5 ∷ []))
    (with 2 0 ∷ [])
    (told Stop.Limited State.Running 0 1 1 0 1 (1704067205 ∷ 9223372036854775806 ∷ []) ∷ []))
unfolding holding
by_second = refl

-- DAILY;BYHOUR=5,6,7;BYSETPOS=2 from 2024-01-01
by_position :
    Holds
    (accepted 3 1704067200 (BYHOUR (pos 5 ∷ pos 6 ∷ pos 7 ∷ []) ++ BYSETPOS (pos 2 ∷ []))
    (with 2 0 ∷ [])
    (told Stop.Limited State.Running 0 1 1 0 1 (1704088800 ∷ 9223372036854775806 ∷ []) ∷ []))
unfolding holding
by_position = refl

-- DAILY;BYHOUR=5,6,7;BYSETPOS=-1 from 2024-01-01
by_position_from_end :
    Holds
    (accepted 3 1704067200 (BYHOUR (pos 5 ∷ pos 6 ∷ pos 7 ∷ []) ++ BYSETPOS (neg_ℤ (pos 1) ∷ []))
    (with 2 0 ∷ [])
    (told Stop.Limited State.Running 0 1 1 0 1 (1704092400 ∷ 9223372036854775806 ∷ []) ∷ []))
unfolding holding
by_position_from_end = refl
