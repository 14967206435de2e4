-- Filling in at each frequency, without BYMONTH and with it. Made by compare/make-grid.
-- Assumes nothing.
use mathlib.Core.Path.{refl}
use mathlib.Core.List.{[], ◌∷◌}
use lib.IntN.{pos}
use Rattle.machine.specs.declared.State.{State}
use Rattle.machine.specs.declared.Stop.{Stop}
use Rattle.rule.specs.Charts.{BYMONTH, with, told, accepted}
use Rattle.grid.specs.Grid.{holding, Holds}

-- YEARLY from 2024-02-28 05:06:07
yearly :
    Holds
    (accepted 0 1709096767 ([])
    (with 2 1 ∷ [])
    (told Stop.More State.Running 1 1 2 1 2 (1709096767 ∷ 1740719167 ∷ []) ∷ []))
unfolding holding
yearly = refl

-- YEARLY;BYMONTH=3,4 from 2024-02-29 05:06:07
yearly_in_months :
    Holds
    (accepted 0 1709183167 (BYMONTH (pos 3 ∷ pos 4 ∷ []))
    (with 2 0 ∷ [])
    (told Stop.More State.Running 0 2 2 0 2 (1711688767 ∷ 1714367167 ∷ []) ∷ []))
unfolding holding
yearly_in_months = refl

-- MONTHLY from 2024-02-28 05:06:07
monthly :
    Holds
    (accepted 1 1709096767 ([])
    (with 2 1 ∷ [])
    (told Stop.More State.Running 1 1 2 1 2 (1709096767 ∷ 1711602367 ∷ []) ∷ []))
unfolding holding
monthly = refl

-- MONTHLY;BYMONTH=3 from 2024-02-29 05:06:07
monthly_in_months :
    Holds
    (accepted 1 1709183167 (BYMONTH (pos 3 ∷ []))
    (with 2 1 ∷ [])
    (told Stop.Limited State.Running 1 1 1 1 1 (1711688767 ∷ 9223372036854775806 ∷ []) ∷ []))
unfolding holding
monthly_in_months = refl

-- WEEKLY from 2024-02-28 05:06:07
weekly :
    Holds
    (accepted 2 1709096767 ([])
    (with 2 1 ∷ [])
    (told Stop.More State.Running 1 1 2 1 2 (1709096767 ∷ 1709701567 ∷ []) ∷ []))
unfolding holding
weekly = refl

-- WEEKLY;BYMONTH=3 from 2024-02-29 05:06:07
weekly_in_months :
    Holds
    (accepted 2 1709183167 (BYMONTH (pos 3 ∷ []))
    (with 2 1 ∷ [])
    (told Stop.Limited State.Running 1 1 1 1 1 (1709787967 ∷ 9223372036854775806 ∷ []) ∷ []))
unfolding holding
weekly_in_months = refl

-- DAILY from 2024-02-29 05:06:07
daily :
    Holds
    (accepted 3 1709183167 ([])
    (with 2 1 ∷ [])
    (told Stop.More State.Running 1 1 2 1 2 (1709183167 ∷ 1709269567 ∷ []) ∷ []))
unfolding holding
daily = refl

-- DAILY;BYMONTH=3 from 2024-02-29 05:06:07
daily_in_months :
    Holds
    (accepted 3 1709183167 (BYMONTH (pos 3 ∷ []))
    (with 2 2 ∷ [])
    (told Stop.More State.Running 2 1 2 2 2 (1709269567 ∷ 1709355967 ∷ []) ∷ []))
unfolding holding
daily_in_months = refl

-- HOURLY from 2024-02-29 23:06:07
hourly :
    Holds
    (accepted 4 1709247967 ([])
    (with 2 1 ∷ [])
    (told Stop.More State.Running 1 1 2 1 2 (1709247967 ∷ 1709251567 ∷ []) ∷ []))
unfolding holding
hourly = refl

-- HOURLY;BYMONTH=3 from 2024-02-29 05:06:07
hourly_in_months :
    Holds
    (accepted 4 1709183167 (BYMONTH (pos 3 ∷ []))
    (with 2 2 ∷ [])
    (told Stop.More State.Running 20 1 2 2 2 (1709251567 ∷ 1709255167 ∷ []) ∷ []))
unfolding holding
hourly_in_months = refl

-- MINUTELY from 2024-02-29 23:59:07
minutely :
    Holds
    (accepted 5 1709251147 ([])
    (with 2 1 ∷ [])
    (told Stop.More State.Running 1 1 2 1 2 (1709251147 ∷ 1709251207 ∷ []) ∷ []))
unfolding holding
minutely = refl

-- MINUTELY;BYMONTH=3 from 2024-02-29 05:06:07
minutely_in_months :
    Holds
    (accepted 5 1709183167 (BYMONTH (pos 3 ∷ []))
    (with 2 2 ∷ [])
    (told Stop.More State.Running 1135 1 2 2 2 (1709251207 ∷ 1709251267 ∷ []) ∷ []))
unfolding holding
minutely_in_months = refl

-- SECONDLY from 2024-02-29 23:59:59
secondly :
    Holds
    (accepted 6 1709251199 ([])
    (with 2 1 ∷ [])
    (told Stop.More State.Running 1 1 2 1 2 (1709251199 ∷ 1709251200 ∷ []) ∷ []))
unfolding holding
secondly = refl

-- SECONDLY;BYMONTH=3 from 2024-02-29 05:06:07
secondly_in_months :
    Holds
    (accepted 6 1709183167 (BYMONTH (pos 3 ∷ []))
    (with 2 2 ∷ [])
    (told Stop.More State.Running 68034 1 2 2 2 (1709251200 ∷ 1709251201 ∷ []) ∷ []))
unfolding holding
secondly_in_months = refl
