-- Week period 0 is the whole week of the start: positions and places count from its first day. Made by compare/make-grid.
-- Assumes nothing.
use mathlib.Core.Path.{refl}
use mathlib.Core.List.{[], ◌∷◌, ◌++◌}
use lib.IntN.{pos, neg_ℤ}
use Rattle.machine.specs.declared.Cause.{Cause}
use Rattle.machine.specs.declared.State.{State}
use Rattle.machine.specs.declared.Fault.{Fault}
use Rattle.machine.specs.declared.Stop.{Stop}
use Rattle.rule.specs.Charts.{INTERVAL, COUNT, UNTIL, WKST, BYMONTH, BYDAY, BYSETPOS, with, told, accepted}
use Rattle.grid.specs.Grid.{holding, Holds, holding_from, HoldsFrom}

-- WEEKLY;WKST=0;BYDAY=MO,SU;BYSETPOS=-3,2 from 2024-01-01
from_monday_on_monday :
    Holds
    (accepted 2 1704067200 (WKST 0 ++ BYDAY (pos 0 ∷ pos 0 ∷ []) (pos 0 ∷ pos 6 ∷ []) ++ BYSETPOS (neg_ℤ (pos 3) ∷ pos 2 ∷ []))
    (with 1 0 ∷ [])
    (told Stop.More State.Running 0 1 1 0 1 (1704585600 ∷ []) ∷ []))
unfolding holding
from_monday_on_monday = refl

-- WEEKLY;WKST=0;BYDAY=MO,TU,SU;BYSETPOS=-3,2 from 2024-01-02
from_monday_on_tuesday :
    Holds
    (accepted 2 1704153600 (WKST 0 ++ BYDAY (pos 0 ∷ pos 0 ∷ pos 0 ∷ []) (pos 0 ∷ pos 1 ∷ pos 6 ∷ []) ++ BYSETPOS (neg_ℤ (pos 3) ∷ pos 2 ∷ []))
    (with 1 0 ∷ [])
    (told Stop.More State.Running 0 2 1 0 1 (1704153600 ∷ []) ∷ []))
unfolding holding
from_monday_on_tuesday = refl

-- WEEKLY;WKST=0;BYDAY=MO,WE,SU;BYSETPOS=-3,2 from 2024-01-03
from_monday_on_wednesday :
    Holds
    (accepted 2 1704240000 (WKST 0 ++ BYDAY (pos 0 ∷ pos 0 ∷ pos 0 ∷ []) (pos 0 ∷ pos 2 ∷ pos 6 ∷ []) ++ BYSETPOS (neg_ℤ (pos 3) ∷ pos 2 ∷ []))
    (with 1 0 ∷ [])
    (told Stop.More State.Running 0 2 1 0 1 (1704240000 ∷ []) ∷ []))
unfolding holding
from_monday_on_wednesday = refl

-- WEEKLY;WKST=0;BYDAY=MO,TH,SU;BYSETPOS=-3,2 from 2024-01-04
from_monday_on_thursday :
    Holds
    (accepted 2 1704326400 (WKST 0 ++ BYDAY (pos 0 ∷ pos 0 ∷ pos 0 ∷ []) (pos 0 ∷ pos 3 ∷ pos 6 ∷ []) ++ BYSETPOS (neg_ℤ (pos 3) ∷ pos 2 ∷ []))
    (with 1 0 ∷ [])
    (told Stop.More State.Running 0 2 1 0 1 (1704326400 ∷ []) ∷ []))
unfolding holding
from_monday_on_thursday = refl

-- WEEKLY;WKST=0;BYDAY=MO,FR,SU;BYSETPOS=-3,2 from 2024-01-05
from_monday_on_friday :
    Holds
    (accepted 2 1704412800 (WKST 0 ++ BYDAY (pos 0 ∷ pos 0 ∷ pos 0 ∷ []) (pos 0 ∷ pos 4 ∷ pos 6 ∷ []) ++ BYSETPOS (neg_ℤ (pos 3) ∷ pos 2 ∷ []))
    (with 1 0 ∷ [])
    (told Stop.More State.Running 0 2 1 0 1 (1704412800 ∷ []) ∷ []))
unfolding holding
from_monday_on_friday = refl

-- WEEKLY;WKST=0;BYDAY=MO,SA,SU;BYSETPOS=-3,2 from 2024-01-06
from_monday_on_saturday :
    Holds
    (accepted 2 1704499200 (WKST 0 ++ BYDAY (pos 0 ∷ pos 0 ∷ pos 0 ∷ []) (pos 0 ∷ pos 5 ∷ pos 6 ∷ []) ++ BYSETPOS (neg_ℤ (pos 3) ∷ pos 2 ∷ []))
    (with 1 0 ∷ [])
    (told Stop.More State.Running 0 2 1 0 1 (1704499200 ∷ []) ∷ []))
unfolding holding
from_monday_on_saturday = refl

-- WEEKLY;WKST=0;BYDAY=MO,SU;BYSETPOS=-3,2 from 2024-01-07
from_monday_on_sunday :
    Holds
    (accepted 2 1704585600 (WKST 0 ++ BYDAY (pos 0 ∷ pos 0 ∷ []) (pos 0 ∷ pos 6 ∷ []) ++ BYSETPOS (neg_ℤ (pos 3) ∷ pos 2 ∷ []))
    (with 1 0 ∷ [])
    (told Stop.More State.Running 0 1 1 0 1 (1704585600 ∷ []) ∷ []))
unfolding holding
from_monday_on_sunday = refl

-- WEEKLY;WKST=1;BYDAY=MO,TU;BYSETPOS=-3,2 from 2024-01-01
from_tuesday_on_monday :
    Holds
    (accepted 2 1704067200 (WKST 1 ++ BYDAY (pos 0 ∷ pos 0 ∷ []) (pos 0 ∷ pos 1 ∷ []) ++ BYSETPOS (neg_ℤ (pos 3) ∷ pos 2 ∷ []))
    (with 1 0 ∷ [])
    (told Stop.More State.Running 0 1 1 0 1 (1704067200 ∷ []) ∷ []))
unfolding holding
from_tuesday_on_monday = refl

-- WEEKLY;WKST=1;BYDAY=MO,TU;BYSETPOS=-3,2 from 2024-01-02
from_tuesday_on_tuesday :
    Holds
    (accepted 2 1704153600 (WKST 1 ++ BYDAY (pos 0 ∷ pos 0 ∷ []) (pos 0 ∷ pos 1 ∷ []) ++ BYSETPOS (neg_ℤ (pos 3) ∷ pos 2 ∷ []))
    (with 1 0 ∷ [])
    (told Stop.More State.Running 0 1 1 0 1 (1704672000 ∷ []) ∷ []))
unfolding holding
from_tuesday_on_tuesday = refl

-- WEEKLY;WKST=1;BYDAY=MO,TU,WE;BYSETPOS=-3,2 from 2024-01-03
from_tuesday_on_wednesday :
    Holds
    (accepted 2 1704240000 (WKST 1 ++ BYDAY (pos 0 ∷ pos 0 ∷ pos 0 ∷ []) (pos 0 ∷ pos 1 ∷ pos 2 ∷ []) ++ BYSETPOS (neg_ℤ (pos 3) ∷ pos 2 ∷ []))
    (with 1 0 ∷ [])
    (told Stop.More State.Running 0 2 1 0 1 (1704240000 ∷ []) ∷ []))
unfolding holding
from_tuesday_on_wednesday = refl

-- WEEKLY;WKST=1;BYDAY=MO,TU,TH;BYSETPOS=-3,2 from 2024-01-04
from_tuesday_on_thursday :
    Holds
    (accepted 2 1704326400 (WKST 1 ++ BYDAY (pos 0 ∷ pos 0 ∷ pos 0 ∷ []) (pos 0 ∷ pos 1 ∷ pos 3 ∷ []) ++ BYSETPOS (neg_ℤ (pos 3) ∷ pos 2 ∷ []))
    (with 1 0 ∷ [])
    (told Stop.More State.Running 0 2 1 0 1 (1704326400 ∷ []) ∷ []))
unfolding holding
from_tuesday_on_thursday = refl

-- WEEKLY;WKST=1;BYDAY=MO,TU,FR;BYSETPOS=-3,2 from 2024-01-05
from_tuesday_on_friday :
    Holds
    (accepted 2 1704412800 (WKST 1 ++ BYDAY (pos 0 ∷ pos 0 ∷ pos 0 ∷ []) (pos 0 ∷ pos 1 ∷ pos 4 ∷ []) ++ BYSETPOS (neg_ℤ (pos 3) ∷ pos 2 ∷ []))
    (with 1 0 ∷ [])
    (told Stop.More State.Running 0 2 1 0 1 (1704412800 ∷ []) ∷ []))
unfolding holding
from_tuesday_on_friday = refl

-- WEEKLY;WKST=1;BYDAY=MO,TU,SA;BYSETPOS=-3,2 from 2024-01-06
from_tuesday_on_saturday :
    Holds
    (accepted 2 1704499200 (WKST 1 ++ BYDAY (pos 0 ∷ pos 0 ∷ pos 0 ∷ []) (pos 0 ∷ pos 1 ∷ pos 5 ∷ []) ++ BYSETPOS (neg_ℤ (pos 3) ∷ pos 2 ∷ []))
    (with 1 0 ∷ [])
    (told Stop.More State.Running 0 2 1 0 1 (1704499200 ∷ []) ∷ []))
unfolding holding
from_tuesday_on_saturday = refl

-- WEEKLY;WKST=1;BYDAY=MO,TU,SU;BYSETPOS=-3,2 from 2024-01-07
from_tuesday_on_sunday :
    Holds
    (accepted 2 1704585600 (WKST 1 ++ BYDAY (pos 0 ∷ pos 0 ∷ pos 0 ∷ []) (pos 0 ∷ pos 1 ∷ pos 6 ∷ []) ++ BYSETPOS (neg_ℤ (pos 3) ∷ pos 2 ∷ []))
    (with 1 0 ∷ [])
    (told Stop.More State.Running 0 2 1 0 1 (1704585600 ∷ []) ∷ []))
unfolding holding
from_tuesday_on_sunday = refl

-- WEEKLY;WKST=2;BYDAY=MO,TU,WE;BYSETPOS=-3,2 from 2024-01-01
from_wednesday_on_monday :
    Holds
    (accepted 2 1704067200 (WKST 2 ++ BYDAY (pos 0 ∷ pos 0 ∷ pos 0 ∷ []) (pos 0 ∷ pos 1 ∷ pos 2 ∷ []) ++ BYSETPOS (neg_ℤ (pos 3) ∷ pos 2 ∷ []))
    (with 1 0 ∷ [])
    (told Stop.More State.Running 0 2 1 0 1 (1704067200 ∷ []) ∷ []))
unfolding holding
from_wednesday_on_monday = refl

-- WEEKLY;WKST=2;BYDAY=TU,WE;BYSETPOS=-3,2 from 2024-01-02
from_wednesday_on_tuesday :
    Holds
    (accepted 2 1704153600 (WKST 2 ++ BYDAY (pos 0 ∷ pos 0 ∷ []) (pos 1 ∷ pos 2 ∷ []) ++ BYSETPOS (neg_ℤ (pos 3) ∷ pos 2 ∷ []))
    (with 1 0 ∷ [])
    (told Stop.More State.Running 0 1 1 0 1 (1704153600 ∷ []) ∷ []))
unfolding holding
from_wednesday_on_tuesday = refl

-- WEEKLY;WKST=2;BYDAY=TU,WE;BYSETPOS=-3,2 from 2024-01-03
from_wednesday_on_wednesday :
    Holds
    (accepted 2 1704240000 (WKST 2 ++ BYDAY (pos 0 ∷ pos 0 ∷ []) (pos 1 ∷ pos 2 ∷ []) ++ BYSETPOS (neg_ℤ (pos 3) ∷ pos 2 ∷ []))
    (with 1 0 ∷ [])
    (told Stop.More State.Running 0 1 1 0 1 (1704758400 ∷ []) ∷ []))
unfolding holding
from_wednesday_on_wednesday = refl

-- WEEKLY;WKST=2;BYDAY=TU,WE,TH;BYSETPOS=-3,2 from 2024-01-04
from_wednesday_on_thursday :
    Holds
    (accepted 2 1704326400 (WKST 2 ++ BYDAY (pos 0 ∷ pos 0 ∷ pos 0 ∷ []) (pos 1 ∷ pos 2 ∷ pos 3 ∷ []) ++ BYSETPOS (neg_ℤ (pos 3) ∷ pos 2 ∷ []))
    (with 1 0 ∷ [])
    (told Stop.More State.Running 0 2 1 0 1 (1704326400 ∷ []) ∷ []))
unfolding holding
from_wednesday_on_thursday = refl

-- WEEKLY;WKST=2;BYDAY=TU,WE,FR;BYSETPOS=-3,2 from 2024-01-05
from_wednesday_on_friday :
    Holds
    (accepted 2 1704412800 (WKST 2 ++ BYDAY (pos 0 ∷ pos 0 ∷ pos 0 ∷ []) (pos 1 ∷ pos 2 ∷ pos 4 ∷ []) ++ BYSETPOS (neg_ℤ (pos 3) ∷ pos 2 ∷ []))
    (with 1 0 ∷ [])
    (told Stop.More State.Running 0 2 1 0 1 (1704412800 ∷ []) ∷ []))
unfolding holding
from_wednesday_on_friday = refl

-- WEEKLY;WKST=2;BYDAY=TU,WE,SA;BYSETPOS=-3,2 from 2024-01-06
from_wednesday_on_saturday :
    Holds
    (accepted 2 1704499200 (WKST 2 ++ BYDAY (pos 0 ∷ pos 0 ∷ pos 0 ∷ []) (pos 1 ∷ pos 2 ∷ pos 5 ∷ []) ++ BYSETPOS (neg_ℤ (pos 3) ∷ pos 2 ∷ []))
    (with 1 0 ∷ [])
    (told Stop.More State.Running 0 2 1 0 1 (1704499200 ∷ []) ∷ []))
unfolding holding
from_wednesday_on_saturday = refl

-- WEEKLY;WKST=2;BYDAY=TU,WE,SU;BYSETPOS=-3,2 from 2024-01-07
from_wednesday_on_sunday :
    Holds
    (accepted 2 1704585600 (WKST 2 ++ BYDAY (pos 0 ∷ pos 0 ∷ pos 0 ∷ []) (pos 1 ∷ pos 2 ∷ pos 6 ∷ []) ++ BYSETPOS (neg_ℤ (pos 3) ∷ pos 2 ∷ []))
    (with 1 0 ∷ [])
    (told Stop.More State.Running 0 2 1 0 1 (1704585600 ∷ []) ∷ []))
unfolding holding
from_wednesday_on_sunday = refl

-- WEEKLY;WKST=3;BYDAY=MO,WE,TH;BYSETPOS=-3,2 from 2024-01-01
from_thursday_on_monday :
    Holds
    (accepted 2 1704067200 (WKST 3 ++ BYDAY (pos 0 ∷ pos 0 ∷ pos 0 ∷ []) (pos 0 ∷ pos 2 ∷ pos 3 ∷ []) ++ BYSETPOS (neg_ℤ (pos 3) ∷ pos 2 ∷ []))
    (with 1 0 ∷ [])
    (told Stop.More State.Running 0 2 1 0 1 (1704067200 ∷ []) ∷ []))
unfolding holding
from_thursday_on_monday = refl

-- WEEKLY;WKST=3;BYDAY=TU,WE,TH;BYSETPOS=-3,2 from 2024-01-02
from_thursday_on_tuesday :
    Holds
    (accepted 2 1704153600 (WKST 3 ++ BYDAY (pos 0 ∷ pos 0 ∷ pos 0 ∷ []) (pos 1 ∷ pos 2 ∷ pos 3 ∷ []) ++ BYSETPOS (neg_ℤ (pos 3) ∷ pos 2 ∷ []))
    (with 1 0 ∷ [])
    (told Stop.More State.Running 0 2 1 0 1 (1704153600 ∷ []) ∷ []))
unfolding holding
from_thursday_on_tuesday = refl

-- WEEKLY;WKST=3;BYDAY=WE,TH;BYSETPOS=-3,2 from 2024-01-03
from_thursday_on_wednesday :
    Holds
    (accepted 2 1704240000 (WKST 3 ++ BYDAY (pos 0 ∷ pos 0 ∷ []) (pos 2 ∷ pos 3 ∷ []) ++ BYSETPOS (neg_ℤ (pos 3) ∷ pos 2 ∷ []))
    (with 1 0 ∷ [])
    (told Stop.More State.Running 0 1 1 0 1 (1704240000 ∷ []) ∷ []))
unfolding holding
from_thursday_on_wednesday = refl

-- WEEKLY;WKST=3;BYDAY=WE,TH;BYSETPOS=-3,2 from 2024-01-04
from_thursday_on_thursday :
    Holds
    (accepted 2 1704326400 (WKST 3 ++ BYDAY (pos 0 ∷ pos 0 ∷ []) (pos 2 ∷ pos 3 ∷ []) ++ BYSETPOS (neg_ℤ (pos 3) ∷ pos 2 ∷ []))
    (with 1 0 ∷ [])
    (told Stop.More State.Running 0 1 1 0 1 (1704844800 ∷ []) ∷ []))
unfolding holding
from_thursday_on_thursday = refl

-- WEEKLY;WKST=3;BYDAY=WE,TH,FR;BYSETPOS=-3,2 from 2024-01-05
from_thursday_on_friday :
    Holds
    (accepted 2 1704412800 (WKST 3 ++ BYDAY (pos 0 ∷ pos 0 ∷ pos 0 ∷ []) (pos 2 ∷ pos 3 ∷ pos 4 ∷ []) ++ BYSETPOS (neg_ℤ (pos 3) ∷ pos 2 ∷ []))
    (with 1 0 ∷ [])
    (told Stop.More State.Running 0 2 1 0 1 (1704412800 ∷ []) ∷ []))
unfolding holding
from_thursday_on_friday = refl

-- WEEKLY;WKST=3;BYDAY=WE,TH,SA;BYSETPOS=-3,2 from 2024-01-06
from_thursday_on_saturday :
    Holds
    (accepted 2 1704499200 (WKST 3 ++ BYDAY (pos 0 ∷ pos 0 ∷ pos 0 ∷ []) (pos 2 ∷ pos 3 ∷ pos 5 ∷ []) ++ BYSETPOS (neg_ℤ (pos 3) ∷ pos 2 ∷ []))
    (with 1 0 ∷ [])
    (told Stop.More State.Running 0 2 1 0 1 (1704499200 ∷ []) ∷ []))
unfolding holding
from_thursday_on_saturday = refl

-- WEEKLY;WKST=3;BYDAY=WE,TH,SU;BYSETPOS=-3,2 from 2024-01-07
from_thursday_on_sunday :
    Holds
    (accepted 2 1704585600 (WKST 3 ++ BYDAY (pos 0 ∷ pos 0 ∷ pos 0 ∷ []) (pos 2 ∷ pos 3 ∷ pos 6 ∷ []) ++ BYSETPOS (neg_ℤ (pos 3) ∷ pos 2 ∷ []))
    (with 1 0 ∷ [])
    (told Stop.More State.Running 0 2 1 0 1 (1704585600 ∷ []) ∷ []))
unfolding holding
from_thursday_on_sunday = refl

-- WEEKLY;WKST=4;BYDAY=MO,TH,FR;BYSETPOS=-3,2 from 2024-01-01
from_friday_on_monday :
    Holds
    (accepted 2 1704067200 (WKST 4 ++ BYDAY (pos 0 ∷ pos 0 ∷ pos 0 ∷ []) (pos 0 ∷ pos 3 ∷ pos 4 ∷ []) ++ BYSETPOS (neg_ℤ (pos 3) ∷ pos 2 ∷ []))
    (with 1 0 ∷ [])
    (told Stop.More State.Running 0 2 1 0 1 (1704067200 ∷ []) ∷ []))
unfolding holding
from_friday_on_monday = refl

-- WEEKLY;WKST=4;BYDAY=TU,TH,FR;BYSETPOS=-3,2 from 2024-01-02
from_friday_on_tuesday :
    Holds
    (accepted 2 1704153600 (WKST 4 ++ BYDAY (pos 0 ∷ pos 0 ∷ pos 0 ∷ []) (pos 1 ∷ pos 3 ∷ pos 4 ∷ []) ++ BYSETPOS (neg_ℤ (pos 3) ∷ pos 2 ∷ []))
    (with 1 0 ∷ [])
    (told Stop.More State.Running 0 2 1 0 1 (1704153600 ∷ []) ∷ []))
unfolding holding
from_friday_on_tuesday = refl

-- WEEKLY;WKST=4;BYDAY=WE,TH,FR;BYSETPOS=-3,2 from 2024-01-03
from_friday_on_wednesday :
    Holds
    (accepted 2 1704240000 (WKST 4 ++ BYDAY (pos 0 ∷ pos 0 ∷ pos 0 ∷ []) (pos 2 ∷ pos 3 ∷ pos 4 ∷ []) ++ BYSETPOS (neg_ℤ (pos 3) ∷ pos 2 ∷ []))
    (with 1 0 ∷ [])
    (told Stop.More State.Running 0 2 1 0 1 (1704240000 ∷ []) ∷ []))
unfolding holding
from_friday_on_wednesday = refl

-- WEEKLY;WKST=4;BYDAY=TH,FR;BYSETPOS=-3,2 from 2024-01-04
from_friday_on_thursday :
    Holds
    (accepted 2 1704326400 (WKST 4 ++ BYDAY (pos 0 ∷ pos 0 ∷ []) (pos 3 ∷ pos 4 ∷ []) ++ BYSETPOS (neg_ℤ (pos 3) ∷ pos 2 ∷ []))
    (with 1 0 ∷ [])
    (told Stop.More State.Running 0 1 1 0 1 (1704326400 ∷ []) ∷ []))
unfolding holding
from_friday_on_thursday = refl

-- WEEKLY;WKST=4;BYDAY=TH,FR;BYSETPOS=-3,2 from 2024-01-05
from_friday_on_friday :
    Holds
    (accepted 2 1704412800 (WKST 4 ++ BYDAY (pos 0 ∷ pos 0 ∷ []) (pos 3 ∷ pos 4 ∷ []) ++ BYSETPOS (neg_ℤ (pos 3) ∷ pos 2 ∷ []))
    (with 1 0 ∷ [])
    (told Stop.More State.Running 0 1 1 0 1 (1704931200 ∷ []) ∷ []))
unfolding holding
from_friday_on_friday = refl

-- WEEKLY;WKST=4;BYDAY=TH,FR,SA;BYSETPOS=-3,2 from 2024-01-06
from_friday_on_saturday :
    Holds
    (accepted 2 1704499200 (WKST 4 ++ BYDAY (pos 0 ∷ pos 0 ∷ pos 0 ∷ []) (pos 3 ∷ pos 4 ∷ pos 5 ∷ []) ++ BYSETPOS (neg_ℤ (pos 3) ∷ pos 2 ∷ []))
    (with 1 0 ∷ [])
    (told Stop.More State.Running 0 2 1 0 1 (1704499200 ∷ []) ∷ []))
unfolding holding
from_friday_on_saturday = refl

-- WEEKLY;WKST=4;BYDAY=TH,FR,SU;BYSETPOS=-3,2 from 2024-01-07
from_friday_on_sunday :
    Holds
    (accepted 2 1704585600 (WKST 4 ++ BYDAY (pos 0 ∷ pos 0 ∷ pos 0 ∷ []) (pos 3 ∷ pos 4 ∷ pos 6 ∷ []) ++ BYSETPOS (neg_ℤ (pos 3) ∷ pos 2 ∷ []))
    (with 1 0 ∷ [])
    (told Stop.More State.Running 0 2 1 0 1 (1704585600 ∷ []) ∷ []))
unfolding holding
from_friday_on_sunday = refl

-- WEEKLY;WKST=5;BYDAY=MO,FR,SA;BYSETPOS=-3,2 from 2024-01-01
from_saturday_on_monday :
    Holds
    (accepted 2 1704067200 (WKST 5 ++ BYDAY (pos 0 ∷ pos 0 ∷ pos 0 ∷ []) (pos 0 ∷ pos 4 ∷ pos 5 ∷ []) ++ BYSETPOS (neg_ℤ (pos 3) ∷ pos 2 ∷ []))
    (with 1 0 ∷ [])
    (told Stop.More State.Running 0 2 1 0 1 (1704067200 ∷ []) ∷ []))
unfolding holding
from_saturday_on_monday = refl

-- WEEKLY;WKST=5;BYDAY=TU,FR,SA;BYSETPOS=-3,2 from 2024-01-02
from_saturday_on_tuesday :
    Holds
    (accepted 2 1704153600 (WKST 5 ++ BYDAY (pos 0 ∷ pos 0 ∷ pos 0 ∷ []) (pos 1 ∷ pos 4 ∷ pos 5 ∷ []) ++ BYSETPOS (neg_ℤ (pos 3) ∷ pos 2 ∷ []))
    (with 1 0 ∷ [])
    (told Stop.More State.Running 0 2 1 0 1 (1704153600 ∷ []) ∷ []))
unfolding holding
from_saturday_on_tuesday = refl

-- WEEKLY;WKST=5;BYDAY=WE,FR,SA;BYSETPOS=-3,2 from 2024-01-03
from_saturday_on_wednesday :
    Holds
    (accepted 2 1704240000 (WKST 5 ++ BYDAY (pos 0 ∷ pos 0 ∷ pos 0 ∷ []) (pos 2 ∷ pos 4 ∷ pos 5 ∷ []) ++ BYSETPOS (neg_ℤ (pos 3) ∷ pos 2 ∷ []))
    (with 1 0 ∷ [])
    (told Stop.More State.Running 0 2 1 0 1 (1704240000 ∷ []) ∷ []))
unfolding holding
from_saturday_on_wednesday = refl

-- WEEKLY;WKST=5;BYDAY=TH,FR,SA;BYSETPOS=-3,2 from 2024-01-04
from_saturday_on_thursday :
    Holds
    (accepted 2 1704326400 (WKST 5 ++ BYDAY (pos 0 ∷ pos 0 ∷ pos 0 ∷ []) (pos 3 ∷ pos 4 ∷ pos 5 ∷ []) ++ BYSETPOS (neg_ℤ (pos 3) ∷ pos 2 ∷ []))
    (with 1 0 ∷ [])
    (told Stop.More State.Running 0 2 1 0 1 (1704326400 ∷ []) ∷ []))
unfolding holding
from_saturday_on_thursday = refl

-- WEEKLY;WKST=5;BYDAY=FR,SA;BYSETPOS=-3,2 from 2024-01-05
from_saturday_on_friday :
    Holds
    (accepted 2 1704412800 (WKST 5 ++ BYDAY (pos 0 ∷ pos 0 ∷ []) (pos 4 ∷ pos 5 ∷ []) ++ BYSETPOS (neg_ℤ (pos 3) ∷ pos 2 ∷ []))
    (with 1 0 ∷ [])
    (told Stop.More State.Running 0 1 1 0 1 (1704412800 ∷ []) ∷ []))
unfolding holding
from_saturday_on_friday = refl

-- WEEKLY;WKST=5;BYDAY=FR,SA;BYSETPOS=-3,2 from 2024-01-06
from_saturday_on_saturday :
    Holds
    (accepted 2 1704499200 (WKST 5 ++ BYDAY (pos 0 ∷ pos 0 ∷ []) (pos 4 ∷ pos 5 ∷ []) ++ BYSETPOS (neg_ℤ (pos 3) ∷ pos 2 ∷ []))
    (with 1 0 ∷ [])
    (told Stop.More State.Running 0 1 1 0 1 (1705017600 ∷ []) ∷ []))
unfolding holding
from_saturday_on_saturday = refl

-- WEEKLY;WKST=5;BYDAY=FR,SA,SU;BYSETPOS=-3,2 from 2024-01-07
from_saturday_on_sunday :
    Holds
    (accepted 2 1704585600 (WKST 5 ++ BYDAY (pos 0 ∷ pos 0 ∷ pos 0 ∷ []) (pos 4 ∷ pos 5 ∷ pos 6 ∷ []) ++ BYSETPOS (neg_ℤ (pos 3) ∷ pos 2 ∷ []))
    (with 1 0 ∷ [])
    (told Stop.More State.Running 0 2 1 0 1 (1704585600 ∷ []) ∷ []))
unfolding holding
from_saturday_on_sunday = refl

-- WEEKLY;WKST=6;BYDAY=MO,SA,SU;BYSETPOS=-3,2 from 2024-01-01
from_sunday_on_monday :
    Holds
    (accepted 2 1704067200 (WKST 6 ++ BYDAY (pos 0 ∷ pos 0 ∷ pos 0 ∷ []) (pos 0 ∷ pos 5 ∷ pos 6 ∷ []) ++ BYSETPOS (neg_ℤ (pos 3) ∷ pos 2 ∷ []))
    (with 1 0 ∷ [])
    (told Stop.More State.Running 0 2 1 0 1 (1704067200 ∷ []) ∷ []))
unfolding holding
from_sunday_on_monday = refl

-- WEEKLY;WKST=6;BYDAY=TU,SA,SU;BYSETPOS=-3,2 from 2024-01-02
from_sunday_on_tuesday :
    Holds
    (accepted 2 1704153600 (WKST 6 ++ BYDAY (pos 0 ∷ pos 0 ∷ pos 0 ∷ []) (pos 1 ∷ pos 5 ∷ pos 6 ∷ []) ++ BYSETPOS (neg_ℤ (pos 3) ∷ pos 2 ∷ []))
    (with 1 0 ∷ [])
    (told Stop.More State.Running 0 2 1 0 1 (1704153600 ∷ []) ∷ []))
unfolding holding
from_sunday_on_tuesday = refl

-- WEEKLY;WKST=6;BYDAY=WE,SA,SU;BYSETPOS=-3,2 from 2024-01-03
from_sunday_on_wednesday :
    Holds
    (accepted 2 1704240000 (WKST 6 ++ BYDAY (pos 0 ∷ pos 0 ∷ pos 0 ∷ []) (pos 2 ∷ pos 5 ∷ pos 6 ∷ []) ++ BYSETPOS (neg_ℤ (pos 3) ∷ pos 2 ∷ []))
    (with 1 0 ∷ [])
    (told Stop.More State.Running 0 2 1 0 1 (1704240000 ∷ []) ∷ []))
unfolding holding
from_sunday_on_wednesday = refl

-- WEEKLY;WKST=6;BYDAY=TH,SA,SU;BYSETPOS=-3,2 from 2024-01-04
from_sunday_on_thursday :
    Holds
    (accepted 2 1704326400 (WKST 6 ++ BYDAY (pos 0 ∷ pos 0 ∷ pos 0 ∷ []) (pos 3 ∷ pos 5 ∷ pos 6 ∷ []) ++ BYSETPOS (neg_ℤ (pos 3) ∷ pos 2 ∷ []))
    (with 1 0 ∷ [])
    (told Stop.More State.Running 0 2 1 0 1 (1704326400 ∷ []) ∷ []))
unfolding holding
from_sunday_on_thursday = refl

-- WEEKLY;WKST=6;BYDAY=FR,SA,SU;BYSETPOS=-3,2 from 2024-01-05
from_sunday_on_friday :
    Holds
    (accepted 2 1704412800 (WKST 6 ++ BYDAY (pos 0 ∷ pos 0 ∷ pos 0 ∷ []) (pos 4 ∷ pos 5 ∷ pos 6 ∷ []) ++ BYSETPOS (neg_ℤ (pos 3) ∷ pos 2 ∷ []))
    (with 1 0 ∷ [])
    (told Stop.More State.Running 0 2 1 0 1 (1704412800 ∷ []) ∷ []))
unfolding holding
from_sunday_on_friday = refl

-- WEEKLY;WKST=6;BYDAY=SA,SU;BYSETPOS=-3,2 from 2024-01-06
from_sunday_on_saturday :
    Holds
    (accepted 2 1704499200 (WKST 6 ++ BYDAY (pos 0 ∷ pos 0 ∷ []) (pos 5 ∷ pos 6 ∷ []) ++ BYSETPOS (neg_ℤ (pos 3) ∷ pos 2 ∷ []))
    (with 1 0 ∷ [])
    (told Stop.More State.Running 0 1 1 0 1 (1704499200 ∷ []) ∷ []))
unfolding holding
from_sunday_on_saturday = refl

-- WEEKLY;WKST=6;BYDAY=SA,SU;BYSETPOS=-3,2 from 2024-01-07
from_sunday_on_sunday :
    Holds
    (accepted 2 1704585600 (WKST 6 ++ BYDAY (pos 0 ∷ pos 0 ∷ []) (pos 5 ∷ pos 6 ∷ []) ++ BYSETPOS (neg_ℤ (pos 3) ∷ pos 2 ∷ []))
    (with 1 0 ∷ [])
    (told Stop.More State.Running 0 1 1 0 1 (1705104000 ∷ []) ∷ []))
unfolding holding
from_sunday_on_sunday = refl

-- WEEKLY;INTERVAL=2;WKST=0;BYDAY=MO,WE,SU;BYSETPOS=-3,2 from 2024-01-03
every_other_week_from_monday :
    Holds
    (accepted 2 1704240000 (INTERVAL 2 ++ WKST 0 ++ BYDAY (pos 0 ∷ pos 0 ∷ pos 0 ∷ []) (pos 0 ∷ pos 2 ∷ pos 6 ∷ []) ++ BYSETPOS (neg_ℤ (pos 3) ∷ pos 2 ∷ []))
    (with 2 1 ∷ [])
    (told Stop.More State.Running 1 1 2 1 2 (1704240000 ∷ 1705276800 ∷ []) ∷ []))
unfolding holding
every_other_week_from_monday = refl

-- WEEKLY;INTERVAL=2;WKST=1;BYDAY=MO,TU,WE;BYSETPOS=-3,2 from 2024-01-03
every_other_week_from_tuesday :
    Holds
    (accepted 2 1704240000 (INTERVAL 2 ++ WKST 1 ++ BYDAY (pos 0 ∷ pos 0 ∷ pos 0 ∷ []) (pos 0 ∷ pos 1 ∷ pos 2 ∷ []) ++ BYSETPOS (neg_ℤ (pos 3) ∷ pos 2 ∷ []))
    (with 2 1 ∷ [])
    (told Stop.More State.Running 1 1 2 1 2 (1704240000 ∷ 1705363200 ∷ []) ∷ []))
unfolding holding
every_other_week_from_tuesday = refl

-- WEEKLY;INTERVAL=2;WKST=2;BYDAY=TU,WE;BYSETPOS=-3,2 from 2024-01-03
every_other_week_from_wednesday :
    Holds
    (accepted 2 1704240000 (INTERVAL 2 ++ WKST 2 ++ BYDAY (pos 0 ∷ pos 0 ∷ []) (pos 1 ∷ pos 2 ∷ []) ++ BYSETPOS (neg_ℤ (pos 3) ∷ pos 2 ∷ []))
    (with 2 1 ∷ [])
    (told Stop.More State.Running 1 1 2 1 2 (1704758400 ∷ 1705968000 ∷ []) ∷ []))
unfolding holding
every_other_week_from_wednesday = refl

-- WEEKLY;INTERVAL=2;WKST=3;BYDAY=WE,TH;BYSETPOS=-3,2 from 2024-01-03
every_other_week_from_thursday :
    Holds
    (accepted 2 1704240000 (INTERVAL 2 ++ WKST 3 ++ BYDAY (pos 0 ∷ pos 0 ∷ []) (pos 2 ∷ pos 3 ∷ []) ++ BYSETPOS (neg_ℤ (pos 3) ∷ pos 2 ∷ []))
    (with 2 1 ∷ [])
    (told Stop.More State.Running 1 1 2 1 2 (1704240000 ∷ 1705449600 ∷ []) ∷ []))
unfolding holding
every_other_week_from_thursday = refl

-- WEEKLY;INTERVAL=2;WKST=4;BYDAY=WE,TH,FR;BYSETPOS=-3,2 from 2024-01-03
every_other_week_from_friday :
    Holds
    (accepted 2 1704240000 (INTERVAL 2 ++ WKST 4 ++ BYDAY (pos 0 ∷ pos 0 ∷ pos 0 ∷ []) (pos 2 ∷ pos 3 ∷ pos 4 ∷ []) ++ BYSETPOS (neg_ℤ (pos 3) ∷ pos 2 ∷ []))
    (with 2 1 ∷ [])
    (told Stop.More State.Running 1 1 2 1 2 (1704240000 ∷ 1705017600 ∷ []) ∷ []))
unfolding holding
every_other_week_from_friday = refl

-- WEEKLY;INTERVAL=2;WKST=5;BYDAY=WE,FR,SA;BYSETPOS=-3,2 from 2024-01-03
every_other_week_from_saturday :
    Holds
    (accepted 2 1704240000 (INTERVAL 2 ++ WKST 5 ++ BYDAY (pos 0 ∷ pos 0 ∷ pos 0 ∷ []) (pos 2 ∷ pos 4 ∷ pos 5 ∷ []) ++ BYSETPOS (neg_ℤ (pos 3) ∷ pos 2 ∷ []))
    (with 2 1 ∷ [])
    (told Stop.More State.Running 1 1 2 1 2 (1704240000 ∷ 1705104000 ∷ []) ∷ []))
unfolding holding
every_other_week_from_saturday = refl

-- WEEKLY;INTERVAL=2;WKST=6;BYDAY=WE,SA,SU;BYSETPOS=-3,2 from 2024-01-03
every_other_week_from_sunday :
    Holds
    (accepted 2 1704240000 (INTERVAL 2 ++ WKST 6 ++ BYDAY (pos 0 ∷ pos 0 ∷ pos 0 ∷ []) (pos 2 ∷ pos 5 ∷ pos 6 ∷ []) ++ BYSETPOS (neg_ℤ (pos 3) ∷ pos 2 ∷ []))
    (with 2 1 ∷ [])
    (told Stop.More State.Running 1 1 2 1 2 (1704240000 ∷ 1705190400 ∷ []) ∷ []))
unfolding holding
every_other_week_from_sunday = refl

-- WEEKLY;WKST=0;BYDAY=MO,TH from 1970-01-01
in_1970_from_monday :
    Holds
    (accepted 2 0 (WKST 0 ++ BYDAY (pos 0 ∷ pos 0 ∷ []) (pos 0 ∷ pos 3 ∷ []))
    (with 1 0 ∷ [])
    (told Stop.More State.Running 0 2 1 0 1 (0 ∷ []) ∷ []))
unfolding holding
in_1970_from_monday = refl

-- WEEKLY;WKST=1;BYDAY=MO,TH from 1970-01-01
in_1970_from_tuesday :
    Holds
    (accepted 2 0 (WKST 1 ++ BYDAY (pos 0 ∷ pos 0 ∷ []) (pos 0 ∷ pos 3 ∷ []))
    (with 1 0 ∷ [])
    (told Stop.More State.Running 0 1 1 0 1 (0 ∷ []) ∷ []))
unfolding holding
in_1970_from_tuesday = refl

-- WEEKLY;WKST=2;BYDAY=MO,TH from 1970-01-01
in_1970_from_wednesday :
    Holds
    (accepted 2 0 (WKST 2 ++ BYDAY (pos 0 ∷ pos 0 ∷ []) (pos 0 ∷ pos 3 ∷ []))
    (with 1 0 ∷ [])
    (told Stop.More State.Running 0 1 1 0 1 (0 ∷ []) ∷ []))
unfolding holding
in_1970_from_wednesday = refl

-- WEEKLY;WKST=3;BYDAY=MO,TH from 1970-01-01
in_1970_from_thursday :
    Holds
    (accepted 2 0 (WKST 3 ++ BYDAY (pos 0 ∷ pos 0 ∷ []) (pos 0 ∷ pos 3 ∷ []))
    (with 1 0 ∷ [])
    (told Stop.More State.Running 0 1 1 0 1 (0 ∷ []) ∷ []))
unfolding holding
in_1970_from_thursday = refl

-- WEEKLY;WKST=4;BYDAY=MO,TH from 1970-01-01
in_1970_from_friday :
    Holds
    (accepted 2 0 (WKST 4 ++ BYDAY (pos 0 ∷ pos 0 ∷ []) (pos 0 ∷ pos 3 ∷ []))
    (with 1 0 ∷ [])
    (told Stop.More State.Running 0 2 1 0 1 (0 ∷ []) ∷ []))
unfolding holding
in_1970_from_friday = refl

-- WEEKLY;WKST=5;BYDAY=MO,TH from 1970-01-01
in_1970_from_saturday :
    Holds
    (accepted 2 0 (WKST 5 ++ BYDAY (pos 0 ∷ pos 0 ∷ []) (pos 0 ∷ pos 3 ∷ []))
    (with 1 0 ∷ [])
    (told Stop.More State.Running 0 2 1 0 1 (0 ∷ []) ∷ []))
unfolding holding
in_1970_from_saturday = refl

-- WEEKLY;WKST=6;BYDAY=MO,TH from 1970-01-01
in_1970_from_sunday :
    Holds
    (accepted 2 0 (WKST 6 ++ BYDAY (pos 0 ∷ pos 0 ∷ []) (pos 0 ∷ pos 3 ∷ []))
    (with 1 0 ∷ [])
    (told Stop.More State.Running 0 2 1 0 1 (0 ∷ []) ∷ []))
unfolding holding
in_1970_from_sunday = refl

-- WEEKLY;WKST=0;BYDAY=MO,TH;BYSETPOS=2 from 1970-01-01
in_1970_from_monday_second :
    Holds
    (accepted 2 0 (WKST 0 ++ BYDAY (pos 0 ∷ pos 0 ∷ []) (pos 0 ∷ pos 3 ∷ []) ++ BYSETPOS (pos 2 ∷ []))
    (with 1 0 ∷ [])
    (told Stop.More State.Running 0 1 1 0 1 (0 ∷ []) ∷ []))
unfolding holding
in_1970_from_monday_second = refl

-- WEEKLY;WKST=1;BYDAY=TU,TH;BYSETPOS=2 from 1970-01-01
in_1970_from_tuesday_second :
    Holds
    (accepted 2 0 (WKST 1 ++ BYDAY (pos 0 ∷ pos 0 ∷ []) (pos 1 ∷ pos 3 ∷ []) ++ BYSETPOS (pos 2 ∷ []))
    (with 1 0 ∷ [])
    (told Stop.More State.Running 0 1 1 0 1 (0 ∷ []) ∷ []))
unfolding holding
in_1970_from_tuesday_second = refl

-- WEEKLY;WKST=2;BYDAY=WE,TH;BYSETPOS=2 from 1970-01-01
in_1970_from_wednesday_second :
    Holds
    (accepted 2 0 (WKST 2 ++ BYDAY (pos 0 ∷ pos 0 ∷ []) (pos 2 ∷ pos 3 ∷ []) ++ BYSETPOS (pos 2 ∷ []))
    (with 1 0 ∷ [])
    (told Stop.More State.Running 0 1 1 0 1 (0 ∷ []) ∷ []))
unfolding holding
in_1970_from_wednesday_second = refl

-- WEEKLY;WKST=3;BYDAY=WE,TH;BYSETPOS=2 from 1970-01-01
in_1970_from_thursday_second :
    Holds
    (accepted 2 0 (WKST 3 ++ BYDAY (pos 0 ∷ pos 0 ∷ []) (pos 2 ∷ pos 3 ∷ []) ++ BYSETPOS (pos 2 ∷ []))
    (with 1 0 ∷ [])
    (told Stop.More State.Running 0 1 1 0 1 (518400 ∷ []) ∷ []))
unfolding holding
in_1970_from_thursday_second = refl

-- WEEKLY;WKST=4;BYDAY=TH,FR;BYSETPOS=2 from 1970-01-01
in_1970_from_friday_second :
    Holds
    (accepted 2 0 (WKST 4 ++ BYDAY (pos 0 ∷ pos 0 ∷ []) (pos 3 ∷ pos 4 ∷ []) ++ BYSETPOS (pos 2 ∷ []))
    (with 1 0 ∷ [])
    (told Stop.More State.Running 0 1 1 0 1 (0 ∷ []) ∷ []))
unfolding holding
in_1970_from_friday_second = refl

-- WEEKLY;WKST=5;BYDAY=TH,SA;BYSETPOS=2 from 1970-01-01
in_1970_from_saturday_second :
    Holds
    (accepted 2 0 (WKST 5 ++ BYDAY (pos 0 ∷ pos 0 ∷ []) (pos 3 ∷ pos 5 ∷ []) ++ BYSETPOS (pos 2 ∷ []))
    (with 1 0 ∷ [])
    (told Stop.More State.Running 0 1 1 0 1 (0 ∷ []) ∷ []))
unfolding holding
in_1970_from_saturday_second = refl

-- WEEKLY;WKST=6;BYDAY=TH,SU;BYSETPOS=2 from 1970-01-01
in_1970_from_sunday_second :
    Holds
    (accepted 2 0 (WKST 6 ++ BYDAY (pos 0 ∷ pos 0 ∷ []) (pos 3 ∷ pos 6 ∷ []) ++ BYSETPOS (pos 2 ∷ []))
    (with 1 0 ∷ [])
    (told Stop.More State.Running 0 1 1 0 1 (0 ∷ []) ∷ []))
unfolding holding
in_1970_from_sunday_second = refl

-- WEEKLY;BYDAY=MO,TH;BYSETPOS=1 from 1970-01-01
in_1970_first :
    Holds
    (accepted 2 0 (BYDAY (pos 0 ∷ pos 0 ∷ []) (pos 0 ∷ pos 3 ∷ []) ++ BYSETPOS (pos 1 ∷ []))
    (with 1 1 ∷ [])
    (told Stop.More State.Running 1 1 1 1 1 (345600 ∷ []) ∷ []))
unfolding holding
in_1970_first = refl

-- WEEKLY;BYMONTH=1;BYDAY=MO,TH;BYSETPOS=1 from 1970-01-01
january_alone :
    Holds
    (accepted 2 0 (BYMONTH (pos 1 ∷ []) ++ BYDAY (pos 0 ∷ pos 0 ∷ []) (pos 0 ∷ pos 3 ∷ []) ++ BYSETPOS (pos 1 ∷ []))
    (with 1 0 ∷ [])
    (told Stop.More State.Running 0 1 1 0 1 (0 ∷ []) ∷ []))
unfolding holding
january_alone = refl

-- WEEKLY;BYMONTH=12;BYDAY=MO,TU,WE,TH from 1970-01-01; cursor: place 3
december_alone :
    HoldsFrom State.Running 0 3 0
    (accepted 2 0 (BYMONTH (pos 12 ∷ []) ++ BYDAY (pos 0 ∷ pos 0 ∷ pos 0 ∷ pos 0 ∷ []) (pos 0 ∷ pos 1 ∷ pos 2 ∷ pos 3 ∷ []))
    (with 1 0 ∷ [])
    (told Stop.Limited State.Running 0 3 0 0 0 (9223372036854775807 ∷ []) ∷ []))
unfolding holding_from
december_alone = refl

-- WEEKLY;BYMONTH=12;BYDAY=MO,TU,WE,TH from 1970-01-01; cursor: place 4
december_beyond :
    HoldsFrom State.Running 0 4 0
    (accepted 2 0 (BYMONTH (pos 12 ∷ []) ++ BYDAY (pos 0 ∷ pos 0 ∷ pos 0 ∷ pos 0 ∷ []) (pos 0 ∷ pos 1 ∷ pos 2 ∷ pos 3 ∷ []))
    (with 1 0 ∷ [])
    (told (Stop.Refused Fault.Cursor) State.Running 0 4 0 0 0 (9223372036854775807 ∷ []) ∷ []))
unfolding holding_from
december_beyond = refl

-- WEEKLY;COUNT=2;BYDAY=MO,FR;BYSETPOS=1 from 2024-01-03
first_alone :
    Holds
    (accepted 2 1704240000 (COUNT 2 ++ BYDAY (pos 0 ∷ pos 0 ∷ []) (pos 0 ∷ pos 4 ∷ []) ++ BYSETPOS (pos 1 ∷ []))
    (with 3 9 ∷ [])
    (told Stop.Ended (State.Ended Cause.Count) 2 1 2 2 2 (1704672000 ∷ 1705276800 ∷ 9223372036854775805 ∷ []) ∷ []))
unfolding holding
first_alone = refl

-- WEEKLY;INTERVAL=2;BYDAY=MO,FR;BYSETPOS=1 from 2024-01-03
every_other_week :
    Holds
    (accepted 2 1704240000 (INTERVAL 2 ++ BYDAY (pos 0 ∷ pos 0 ∷ []) (pos 0 ∷ pos 4 ∷ []) ++ BYSETPOS (pos 1 ∷ []))
    (with 2 2 ∷ [])
    (told Stop.More State.Running 2 1 2 2 2 (1705276800 ∷ 1706486400 ∷ []) ∷ []))
unfolding holding
every_other_week = refl

-- WEEKLY;BYDAY=MO,WE from 2024-01-03
without_positions :
    Holds
    (accepted 2 1704240000 (BYDAY (pos 0 ∷ pos 0 ∷ []) (pos 0 ∷ pos 2 ∷ []))
    (with 1 0 ∷ [])
    (told Stop.More State.Running 0 2 1 0 1 (1704240000 ∷ []) ∷ []))
unfolding holding
without_positions = refl

-- WEEKLY;BYDAY=MO,FR from 2024-01-03
without_room :
    Holds
    (accepted 2 1704240000 (BYDAY (pos 0 ∷ pos 0 ∷ []) (pos 0 ∷ pos 4 ∷ []))
    (with 0 0 ∷ [])
    (told Stop.More State.Running 0 0 0 0 0 ([]) ∷ []))
unfolding holding
without_room = refl

-- WEEKLY;UNTIL=2024-01-01T12:00:00;BYDAY=MO,TU,WE from 2024-01-03
until_among_those_before :
    Holds
    (accepted 2 1704240000 (UNTIL 1704110400 ++ BYDAY (pos 0 ∷ pos 0 ∷ pos 0 ∷ []) (pos 0 ∷ pos 1 ∷ pos 2 ∷ []))
    (with 1 1 ∷ [])
    (told Stop.Ended (State.Ended Cause.Until) 0 1 0 0 0 (9223372036854775807 ∷ []) ∷ []))
unfolding holding
until_among_those_before = refl

-- WEEKLY;UNTIL=2024-01-01;BYDAY=TU from 2024-01-03
until_before_the_first :
    Holds
    (accepted 2 1704240000 (UNTIL 1704067200 ++ BYDAY (pos 0 ∷ []) (pos 1 ∷ []))
    (with 1 1 ∷ [])
    (told Stop.Ended (State.Ended Cause.Until) 0 0 0 0 0 (9223372036854775807 ∷ []) ∷ []))
unfolding holding
until_before_the_first = refl

-- WEEKLY;BYDAY=MO,WE,FR from 2024-01-03; cursor: place 0, number 0
place_0 :
    HoldsFrom State.Running 0 0 0
    (accepted 2 1704240000 (BYDAY (pos 0 ∷ pos 0 ∷ pos 0 ∷ []) (pos 0 ∷ pos 2 ∷ pos 4 ∷ []))
    (with 1 0 ∷ [])
    (told Stop.More State.Running 0 2 1 0 1 (1704240000 ∷ []) ∷ []))
unfolding holding_from
place_0 = refl

-- WEEKLY;BYDAY=MO,WE,FR from 2024-01-03; cursor: place 0, number 1
place_0_beyond :
    HoldsFrom State.Running 0 0 1
    (accepted 2 1704240000 (BYDAY (pos 0 ∷ pos 0 ∷ pos 0 ∷ []) (pos 0 ∷ pos 2 ∷ pos 4 ∷ []))
    (with 1 0 ∷ [])
    (told (Stop.Refused Fault.Cursor) State.Running 0 0 1 0 0 (9223372036854775807 ∷ []) ∷ []))
unfolding holding_from
place_0_beyond = refl

-- WEEKLY;BYDAY=MO,WE,FR from 2024-01-03; cursor: place 1, number 0
place_1 :
    HoldsFrom State.Running 0 1 0
    (accepted 2 1704240000 (BYDAY (pos 0 ∷ pos 0 ∷ pos 0 ∷ []) (pos 0 ∷ pos 2 ∷ pos 4 ∷ []))
    (with 1 0 ∷ [])
    (told Stop.More State.Running 0 2 1 0 1 (1704240000 ∷ []) ∷ []))
unfolding holding_from
place_1 = refl

-- WEEKLY;BYDAY=MO,WE,FR from 2024-01-03; cursor: place 1, number 1
place_1_beyond :
    HoldsFrom State.Running 0 1 1
    (accepted 2 1704240000 (BYDAY (pos 0 ∷ pos 0 ∷ pos 0 ∷ []) (pos 0 ∷ pos 2 ∷ pos 4 ∷ []))
    (with 1 0 ∷ [])
    (told (Stop.Refused Fault.Cursor) State.Running 0 1 1 0 0 (9223372036854775807 ∷ []) ∷ []))
unfolding holding_from
place_1_beyond = refl

-- WEEKLY;BYDAY=MO,WE,FR from 2024-01-03; cursor: place 2, number 172800
place_2 :
    HoldsFrom State.Running 0 2 172800
    (accepted 2 1704240000 (BYDAY (pos 0 ∷ pos 0 ∷ pos 0 ∷ []) (pos 0 ∷ pos 2 ∷ pos 4 ∷ []))
    (with 1 0 ∷ [])
    (told Stop.More State.Running 0 3 172801 0 1 (1704412800 ∷ []) ∷ []))
unfolding holding_from
place_2 = refl

-- WEEKLY;BYDAY=MO,WE,FR from 2024-01-03; cursor: place 2, number 172801
place_2_beyond :
    HoldsFrom State.Running 0 2 172801
    (accepted 2 1704240000 (BYDAY (pos 0 ∷ pos 0 ∷ pos 0 ∷ []) (pos 0 ∷ pos 2 ∷ pos 4 ∷ []))
    (with 1 0 ∷ [])
    (told (Stop.Refused Fault.Cursor) State.Running 0 2 172801 0 0 (9223372036854775807 ∷ []) ∷ []))
unfolding holding_from
place_2_beyond = refl

-- WEEKLY;BYDAY=MO,WE,FR from 2024-01-03; cursor: place 3, number 432000
place_3 :
    HoldsFrom State.Running 0 3 432000
    (accepted 2 1704240000 (BYDAY (pos 0 ∷ pos 0 ∷ pos 0 ∷ []) (pos 0 ∷ pos 2 ∷ pos 4 ∷ []))
    (with 1 0 ∷ [])
    (told Stop.Limited State.Running 0 3 432000 0 0 (9223372036854775807 ∷ []) ∷ []))
unfolding holding_from
place_3 = refl

-- WEEKLY;BYDAY=MO,WE,FR from 2024-01-03; cursor: place 3, number 432001
place_3_beyond :
    HoldsFrom State.Running 0 3 432001
    (accepted 2 1704240000 (BYDAY (pos 0 ∷ pos 0 ∷ pos 0 ∷ []) (pos 0 ∷ pos 2 ∷ pos 4 ∷ []))
    (with 1 0 ∷ [])
    (told (Stop.Refused Fault.Cursor) State.Running 0 3 432001 0 0 (9223372036854775807 ∷ []) ∷ []))
unfolding holding_from
place_3_beyond = refl

-- WEEKLY;BYDAY=MO,WE,FR from 2024-01-03; cursor: place 4, number 0
place_4 :
    HoldsFrom State.Running 0 4 0
    (accepted 2 1704240000 (BYDAY (pos 0 ∷ pos 0 ∷ pos 0 ∷ []) (pos 0 ∷ pos 2 ∷ pos 4 ∷ []))
    (with 1 0 ∷ [])
    (told (Stop.Refused Fault.Cursor) State.Running 0 4 0 0 0 (9223372036854775807 ∷ []) ∷ []))
unfolding holding_from
place_4 = refl

-- WEEKLY;BYDAY=MO,TH from 1970-01-01; cursor: place 0, number 0
in_1970_place_0 :
    HoldsFrom State.Running 0 0 0
    (accepted 2 0 (BYDAY (pos 0 ∷ pos 0 ∷ []) (pos 0 ∷ pos 3 ∷ []))
    (with 1 0 ∷ [])
    (told Stop.More State.Running 0 2 1 0 1 (0 ∷ []) ∷ []))
unfolding holding_from
in_1970_place_0 = refl

-- WEEKLY;BYDAY=MO,TH from 1970-01-01; cursor: place 0, number 1
in_1970_place_0_beyond :
    HoldsFrom State.Running 0 0 1
    (accepted 2 0 (BYDAY (pos 0 ∷ pos 0 ∷ []) (pos 0 ∷ pos 3 ∷ []))
    (with 1 0 ∷ [])
    (told (Stop.Refused Fault.Cursor) State.Running 0 0 1 0 0 (9223372036854775807 ∷ []) ∷ []))
unfolding holding_from
in_1970_place_0_beyond = refl

-- WEEKLY;BYDAY=MO,TH from 1970-01-01; cursor: place 1, number 0
in_1970_place_1 :
    HoldsFrom State.Running 0 1 0
    (accepted 2 0 (BYDAY (pos 0 ∷ pos 0 ∷ []) (pos 0 ∷ pos 3 ∷ []))
    (with 1 0 ∷ [])
    (told Stop.More State.Running 0 2 1 0 1 (0 ∷ []) ∷ []))
unfolding holding_from
in_1970_place_1 = refl

-- WEEKLY;BYDAY=MO,TH from 1970-01-01; cursor: place 1, number 1
in_1970_place_1_beyond :
    HoldsFrom State.Running 0 1 1
    (accepted 2 0 (BYDAY (pos 0 ∷ pos 0 ∷ []) (pos 0 ∷ pos 3 ∷ []))
    (with 1 0 ∷ [])
    (told (Stop.Refused Fault.Cursor) State.Running 0 1 1 0 0 (9223372036854775807 ∷ []) ∷ []))
unfolding holding_from
in_1970_place_1_beyond = refl

-- WEEKLY;BYDAY=MO,TH from 1970-01-01; cursor: place 2, number 345600
in_1970_place_2 :
    HoldsFrom State.Running 0 2 345600
    (accepted 2 0 (BYDAY (pos 0 ∷ pos 0 ∷ []) (pos 0 ∷ pos 3 ∷ []))
    (with 1 0 ∷ [])
    (told Stop.Limited State.Running 0 2 345600 0 0 (9223372036854775807 ∷ []) ∷ []))
unfolding holding_from
in_1970_place_2 = refl

-- WEEKLY;BYDAY=MO,TH from 1970-01-01; cursor: place 2, number 345601
in_1970_place_2_beyond :
    HoldsFrom State.Running 0 2 345601
    (accepted 2 0 (BYDAY (pos 0 ∷ pos 0 ∷ []) (pos 0 ∷ pos 3 ∷ []))
    (with 1 0 ∷ [])
    (told (Stop.Refused Fault.Cursor) State.Running 0 2 345601 0 0 (9223372036854775807 ∷ []) ∷ []))
unfolding holding_from
in_1970_place_2_beyond = refl

-- WEEKLY;BYDAY=MO,FR;BYSETPOS=1 from 9999-12-29
in_9999_first :
    Holds
    (accepted 2 253402041600 (BYDAY (pos 0 ∷ pos 0 ∷ []) (pos 0 ∷ pos 4 ∷ []) ++ BYSETPOS (pos 1 ∷ []))
    (with 1 1 ∷ [])
    (told Stop.Ended (State.Ended Cause.Range) 0 1 0 0 0 (9223372036854775807 ∷ []) ∷ []))
unfolding holding
in_9999_first = refl

-- WEEKLY;BYDAY=MO,FR;BYSETPOS=-1 from 9999-12-29
in_9999_last :
    Holds
    (accepted 2 253402041600 (BYDAY (pos 0 ∷ pos 0 ∷ []) (pos 0 ∷ pos 4 ∷ []) ++ BYSETPOS (neg_ℤ (pos 1) ∷ []))
    (with 1 1 ∷ [])
    (told Stop.More State.Running 0 1 1 0 1 (253402214400 ∷ []) ∷ []))
unfolding holding
in_9999_last = refl

-- WEEKLY;BYDAY=FR,SA;BYSETPOS=-1 from 9999-12-31
in_9999_cut :
    Holds
    (accepted 2 253402214400 (BYDAY (pos 0 ∷ pos 0 ∷ []) (pos 4 ∷ pos 5 ∷ []) ++ BYSETPOS (neg_ℤ (pos 1) ∷ []))
    (with 2 1 ∷ [])
    (told Stop.Ended (State.Ended Cause.Range) 0 1 1 0 1 (253402214400 ∷ 9223372036854775806 ∷ []) ∷ []))
unfolding holding
in_9999_cut = refl

-- WEEKLY;BYDAY=MO from 9999-12-31; cursor: place 0, number 86400
in_9999_place_0 :
    HoldsFrom State.Running 0 0 86400
    (accepted 2 253402214400 (BYDAY (pos 0 ∷ []) (pos 0 ∷ []))
    (with 1 0 ∷ [])
    (told (Stop.Refused Fault.Cursor) State.Running 0 0 86400 0 0 (9223372036854775807 ∷ []) ∷ []))
unfolding holding_from
in_9999_place_0 = refl

-- WEEKLY;BYDAY=MO from 9999-12-31; cursor: place 1, number 86400
in_9999_place_1 :
    HoldsFrom State.Running 0 1 86400
    (accepted 2 253402214400 (BYDAY (pos 0 ∷ []) (pos 0 ∷ []))
    (with 1 0 ∷ [])
    (told Stop.Limited State.Running 0 1 86400 0 0 (9223372036854775807 ∷ []) ∷ []))
unfolding holding_from
in_9999_place_1 = refl

-- WEEKLY;BYDAY=MO from 9999-12-31; cursor: place 1, number 86401
in_9999_place_1_beyond :
    HoldsFrom State.Running 0 1 86401
    (accepted 2 253402214400 (BYDAY (pos 0 ∷ []) (pos 0 ∷ []))
    (with 1 0 ∷ [])
    (told (Stop.Refused Fault.Cursor) State.Running 0 1 86401 0 0 (9223372036854775807 ∷ []) ∷ []))
unfolding holding_from
in_9999_place_1_beyond = refl
