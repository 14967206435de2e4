-- Each list that may stand with WEEKLY decides. Made by compare/make-grid.
-- Assumes nothing.
use mathlib.Core.Path.{refl}
use mathlib.Core.List.{[], ◌∷◌, ◌++◌}
use lib.IntN.{pos, neg_ℤ}
use Rattle.machine.specs.declared.State.{State}
use Rattle.machine.specs.declared.Stop.{Stop}
use Rattle.rule.specs.Charts.{BYMONTH, BYDAY, BYHOUR, BYMINUTE, BYSECOND, BYSETPOS, with, told, accepted}
use Rattle.grid.specs.Grid.{holding, Holds}

-- WEEKLY;BYMONTH=2 from 2024-01-29
by_month :
    Holds
    (accepted 2 1706486400 (BYMONTH (pos 2 ∷ []))
    (with 2 1 ∷ [])
    (told Stop.Limited State.Running 1 1 1 1 1 (1707091200 ∷ 9223372036854775806 ∷ []) ∷ []))
unfolding holding
by_month = refl

-- WEEKLY;BYDAY=TU from 2024-01-01
by_day :
    Holds
    (accepted 2 1704067200 (BYDAY (pos 0 ∷ []) (pos 1 ∷ []))
    (with 2 0 ∷ [])
    (told Stop.Limited State.Running 0 1 1 0 1 (1704153600 ∷ 9223372036854775806 ∷ []) ∷ []))
unfolding holding
by_day = refl

-- WEEKLY;BYHOUR=5 from 2024-01-01
by_hour :
    Holds
    (accepted 2 1704067200 (BYHOUR (pos 5 ∷ []))
    (with 2 0 ∷ [])
    (told Stop.Limited State.Running 0 1 1 0 1 (1704085200 ∷ 9223372036854775806 ∷ []) ∷ []))
unfolding holding
by_hour = refl

-- WEEKLY;BYMINUTE=5 from 2024-01-01
by_minute :
    Holds
    (accepted 2 1704067200 (BYMINUTE (pos 5 ∷ []))
    (with 2 0 ∷ [])
    (told Stop.Limited State.Running 0 1 1 0 1 (1704067500 ∷ 9223372036854775806 ∷ []) ∷ []))
unfolding holding
by_minute = refl

-- WEEKLY;BYSECOND=5 from 2024-01-01
by_second :
    Holds
    (accepted 2 1704067200 (BYSECOND (pos 5 ∷ []))
    (with 2 0 ∷ [])
    (told Stop.Limited State.Running 0 1 1 0 1 (1704067205 ∷ 9223372036854775806 ∷ []) ∷ []))
unfolding holding
by_second = refl

-- WEEKLY;BYDAY=TU,TH,SA;BYSETPOS=2 from 2024-01-01
by_position :
    Holds
    (accepted 2 1704067200 (BYDAY (pos 0 ∷ pos 0 ∷ pos 0 ∷ []) (pos 1 ∷ pos 3 ∷ pos 5 ∷ []) ++ BYSETPOS (pos 2 ∷ []))
    (with 2 0 ∷ [])
    (told Stop.Limited State.Running 0 1 1 0 1 (1704326400 ∷ 9223372036854775806 ∷ []) ∷ []))
unfolding holding
by_position = refl

-- WEEKLY;BYDAY=TU,TH,SA;BYSETPOS=-1 from 2024-01-01
by_position_from_end :
    Holds
    (accepted 2 1704067200 (BYDAY (pos 0 ∷ pos 0 ∷ pos 0 ∷ []) (pos 1 ∷ pos 3 ∷ pos 5 ∷ []) ++ BYSETPOS (neg_ℤ (pos 1) ∷ []))
    (with 2 0 ∷ [])
    (told Stop.Limited State.Running 0 1 1 0 1 (1704499200 ∷ 9223372036854775806 ∷ []) ∷ []))
unfolding holding
by_position_from_end = refl
