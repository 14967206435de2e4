-- Each list that may stand with SECONDLY decides. Made by compare/make-grid.
-- Assumes nothing.
use mathlib.Core.Path.{refl}
use mathlib.Core.List.{[], ◌∷◌, ◌++◌}
use lib.IntN.{pos, neg_ℤ}
use Rattle.machine.specs.declared.State.{State}
use Rattle.machine.specs.declared.Stop.{Stop}
use Rattle.rule.specs.Charts.{BYMONTH, BYMONTHDAY, BYYEARDAY, BYDAY, BYHOUR, BYMINUTE, BYSECOND, BYSETPOS, with, told, accepted}
use Rattle.grid.specs.Grid.{holding, Holds}

-- SECONDLY;BYMONTH=2 from 2024-01-31
by_month :
    Holds
    (accepted 6 1706659200 (BYMONTH (pos 2 ∷ []))
    (with 1 1 ∷ [])
    (told Stop.More State.Running 86400 1 1 1 1 (1706745600 ∷ []) ∷ []))
unfolding holding
by_month = refl

-- SECONDLY;BYMONTHDAY=2 from 2024-01-01
by_month_day :
    Holds
    (accepted 6 1704067200 (BYMONTHDAY (pos 2 ∷ []))
    (with 1 1 ∷ [])
    (told Stop.More State.Running 86400 1 1 1 1 (1704153600 ∷ []) ∷ []))
unfolding holding
by_month_day = refl

-- SECONDLY;BYMONTHDAY=-1 from 2024-01-30
by_month_day_from_end :
    Holds
    (accepted 6 1706572800 (BYMONTHDAY (neg_ℤ (pos 1) ∷ []))
    (with 1 1 ∷ [])
    (told Stop.More State.Running 86400 1 1 1 1 (1706659200 ∷ []) ∷ []))
unfolding holding
by_month_day_from_end = refl

-- SECONDLY;BYYEARDAY=2 from 2024-01-01
by_year_day :
    Holds
    (accepted 6 1704067200 (BYYEARDAY (pos 2 ∷ []))
    (with 1 1 ∷ [])
    (told Stop.More State.Running 86400 1 1 1 1 (1704153600 ∷ []) ∷ []))
unfolding holding
by_year_day = refl

-- SECONDLY;BYYEARDAY=-1 from 2024-12-30
by_year_day_from_end :
    Holds
    (accepted 6 1735516800 (BYYEARDAY (neg_ℤ (pos 1) ∷ []))
    (with 1 1 ∷ [])
    (told Stop.More State.Running 86400 1 1 1 1 (1735603200 ∷ []) ∷ []))
unfolding holding
by_year_day_from_end = refl

-- SECONDLY;BYDAY=TU from 2024-01-01
by_day :
    Holds
    (accepted 6 1704067200 (BYDAY (pos 0 ∷ []) (pos 1 ∷ []))
    (with 1 1 ∷ [])
    (told Stop.More State.Running 86400 1 1 1 1 (1704153600 ∷ []) ∷ []))
unfolding holding
by_day = refl

-- SECONDLY;BYHOUR=5 from 2024-01-01 04:59:58
by_hour :
    Holds
    (accepted 6 1704085198 (BYHOUR (pos 5 ∷ []))
    (with 1 1 ∷ [])
    (told Stop.More State.Running 2 1 1 1 1 (1704085200 ∷ []) ∷ []))
unfolding holding
by_hour = refl

-- SECONDLY;BYMINUTE=5 from 2024-01-01 00:04:58
by_minute :
    Holds
    (accepted 6 1704067498 (BYMINUTE (pos 5 ∷ []))
    (with 1 1 ∷ [])
    (told Stop.More State.Running 2 1 1 1 1 (1704067500 ∷ []) ∷ []))
unfolding holding
by_minute = refl

-- SECONDLY;BYSECOND=5 from 2024-01-01 00:00:03
by_second :
    Holds
    (accepted 6 1704067203 (BYSECOND (pos 5 ∷ []))
    (with 1 1 ∷ [])
    (told Stop.More State.Running 2 1 1 1 1 (1704067205 ∷ []) ∷ []))
unfolding holding
by_second = refl

-- SECONDLY;BYSECOND=0;BYSETPOS=1 from 2024-01-01
by_position :
    Holds
    (accepted 6 1704067200 (BYSECOND (pos 0 ∷ []) ++ BYSETPOS (pos 1 ∷ []))
    (with 2 0 ∷ [])
    (told Stop.Limited State.Running 0 1 1 0 1 (1704067200 ∷ 9223372036854775806 ∷ []) ∷ []))
unfolding holding
by_position = refl

-- SECONDLY;BYSECOND=0;BYSETPOS=-1 from 2024-01-01
by_position_from_end :
    Holds
    (accepted 6 1704067200 (BYSECOND (pos 0 ∷ []) ++ BYSETPOS (neg_ℤ (pos 1) ∷ []))
    (with 2 0 ∷ [])
    (told Stop.Limited State.Running 0 1 1 0 1 (1704067200 ∷ 9223372036854775806 ∷ []) ∷ []))
unfolding holding
by_position_from_end = refl

-- SECONDLY;BYSECOND=0;BYSETPOS=2 from 2024-01-01
by_position_beyond :
    Holds
    (accepted 6 1704067200 (BYSECOND (pos 0 ∷ []) ++ BYSETPOS (pos 2 ∷ []))
    (with 2 0 ∷ [])
    (told Stop.Limited State.Running 0 0 0 0 0 (9223372036854775807 ∷ 9223372036854775806 ∷ []) ∷ []))
unfolding holding
by_position_beyond = refl
