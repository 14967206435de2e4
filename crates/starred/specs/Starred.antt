-- The starred charts of document 01, and further cases. All numbers are literal.
-- Assumes nothing.
use Rattle.std.specs.Prelude.{List, [], ◌∷◌, ◌++◌, pos, neg_ℤ}
use Rattle.machine.specs.declared.Cause.{Cause}
use Rattle.machine.specs.declared.State.{State}
use Rattle.machine.specs.declared.Stop.{Stop}
use Rattle.rule.specs.declared.rrule.Refusal.{Refusal}
use Rattle.rule.specs.Charts.{INTERVAL, COUNT, UNTIL, WKST, BYMONTH, BYMONTHDAY, BYYEARDAY, BYWEEKNO, BYDAY, BYHOUR, BYSECOND, BYSETPOS}
use Rattle.rule.specs.Charts.{rule_of, with, told, Case, accepted, refused_by, last_week}

unfoldable pub starred : List Case
unfolding rule_of
starred =
    -- DAILY;COUNT=3 from 2024-02-28 05:00, four slots, m = 9
    accepted 3 1709096400 (COUNT 3)
    (with 4 9 ∷ [])
    (told Stop.Ended (State.Ended Cause.Count) 2 1 3 2 3 (1709096400 ∷ 1709182800 ∷ 1709269200 ∷ 9223372036854775804 ∷ [])
    ∷ []) ∷
    -- MONTHLY;COUNT=3 from 2024-01-31 05:00
    accepted 1 1706677200 (COUNT 3)
    (with 4 99 ∷ [])
    (told Stop.Ended (State.Ended Cause.Count) 4 1 3 4 3 (1706677200 ∷ 1711861200 ∷ 1717131600 ∷ 9223372036854775804 ∷ [])
    ∷ []) ∷
    -- YEARLY;COUNT=2 from 2024-02-29
    accepted 0 1709164800 (COUNT 2)
    (with 3 99 ∷ [])
    (told Stop.Ended (State.Ended Cause.Count) 4 1 2 4 2 (1709164800 ∷ 1835395200 ∷ 9223372036854775805 ∷ [])
    ∷ []) ∷
    -- WEEKLY;BYDAY=MO,FR;BYSETPOS=1;COUNT=2 from Wednesday 2024-01-03
    accepted 2 1704240000 (BYDAY (pos 0 ∷ pos 0 ∷ []) (pos 0 ∷ pos 4 ∷ []) ++ BYSETPOS (pos 1 ∷ []) ++ COUNT 2)
    (with 3 99 ∷ [])
    (told Stop.Ended (State.Ended Cause.Count) 2 1 2 2 2 (1704672000 ∷ 1705276800 ∷ 9223372036854775805 ∷ [])
    ∷ []) ∷
    -- MONTHLY;BYDAY=5MO;COUNT=2 from 2024-01-01
    accepted 1 1704067200 (BYDAY (pos 5 ∷ []) (pos 0 ∷ []) ++ COUNT 2)
    (with 3 99 ∷ [])
    (told Stop.Ended (State.Ended Cause.Count) 3 1 2 3 2 (1706486400 ∷ 1714348800 ∷ 9223372036854775805 ∷ [])
    ∷ []) ∷
    -- MONTHLY;BYDAY=-1FR;COUNT=2 from 2024-01-01
    accepted 1 1704067200 (BYDAY (neg_ℤ (pos 1) ∷ []) (pos 4 ∷ []) ++ COUNT 2)
    (with 3 99 ∷ [])
    (told Stop.Ended (State.Ended Cause.Count) 1 1 2 1 2 (1706227200 ∷ 1708646400 ∷ 9223372036854775805 ∷ [])
    ∷ []) ∷
    -- YEARLY;BYWEEKNO=52;COUNT=3 from 2022-01-01
    accepted 0 1640995200 (BYWEEKNO (pos 52 ∷ []) ++ COUNT 3)
    (with 4 99 ∷ [])
    (told Stop.Ended (State.Ended Cause.Count) 0 3 3 0 3 (1640995200 ∷ 1641081600 ∷ 1672012800 ∷ 9223372036854775804 ∷ [])
    ∷ []) ∷
    -- YEARLY;BYWEEKNO=53;COUNT=1 from 2022-01-01
    accepted 0 1640995200 (BYWEEKNO (pos 53 ∷ []) ++ COUNT 1)
    (with 2 99 ∷ [])
    (told Stop.Ended (State.Ended Cause.Count) 4 1 1 4 1 (1798416000 ∷ 9223372036854775806 ∷ [])
    ∷ []) ∷
    -- YEARLY;BYWEEKNO=-52;COUNT=9 from 2024-01-01
    accepted 0 1704067200 (BYWEEKNO (neg_ℤ (pos 52) ∷ []) ++ COUNT 9)
    (with 10 99 ∷ [])
    (told Stop.Ended (State.Ended Cause.Count) 0 9 9 0 9 (1704067200 ∷ 1704153600 ∷ 1704240000 ∷ 1704326400 ∷ 1704412800 ∷ 1704499200 ∷ 1704585600 ∷ 1735516800 ∷ 1735603200 ∷ 9223372036854775798 ∷ [])
    ∷ []) ∷
    -- MINUTELY;INTERVAL=90;BYHOUR=3;COUNT=2 from 2024-01-01
    accepted 5 1704067200 (INTERVAL 90 ++ BYHOUR (pos 3 ∷ []) ++ COUNT 2)
    (with 3 99 ∷ [])
    (told Stop.Ended (State.Ended Cause.Count) 18 1 2 2 2 (1704078000 ∷ 1704164400 ∷ 9223372036854775805 ∷ [])
    ∷ []) ∷
    -- HOURLY;INTERVAL=2;BYHOUR=3 from 00:00
    accepted 4 1704067200 (INTERVAL 2 ++ BYHOUR (pos 3 ∷ []))
    (with 2 99 ∷ [])
    (told Stop.Ended (State.Ended Cause.NoTick) 0 0 0 0 0 (9223372036854775807 ∷ 9223372036854775806 ∷ [])
    ∷ []) ∷
    -- SECONDLY;BYMONTH=2;COUNT=1 from 2024-01-01, m = 30, and again with m = 1
    accepted 6 1704067200 (BYMONTH (pos 2 ∷ []) ++ COUNT 1)
    (with 2 30 ∷ with 2 1 ∷ [])
    (told Stop.Limited State.Running 2592000 0 0 30 0 (9223372036854775807 ∷ 9223372036854775806 ∷ [])
    ∷ told Stop.Ended (State.Ended Cause.Count) 2678400 1 1 1 1 (1706745600 ∷ 9223372036854775806 ∷ [])
    ∷ []) ∷
    -- DAILY;UNTIL=2024-01-02 05:00 from 2024-01-01 05:00
    accepted 3 1704085200 (UNTIL 1704171600)
    (with 3 99 ∷ [])
    (told Stop.Ended (State.Ended Cause.Until) 2 0 2 2 2 (1704085200 ∷ 1704171600 ∷ 9223372036854775805 ∷ [])
    ∷ []) ∷
    -- the same with UNTIL a second less
    accepted 3 1704085200 (UNTIL 1704171599)
    (with 3 99 ∷ [])
    (told Stop.Ended (State.Ended Cause.Until) 1 0 1 1 1 (1704085200 ∷ 9223372036854775806 ∷ 9223372036854775805 ∷ [])
    ∷ []) ∷
    -- DAILY from 253402214400
    accepted 3 253402214400 ([])
    (with 2 99 ∷ [])
    (told Stop.Ended (State.Ended Cause.Range) 0 1 1 0 1 (253402214400 ∷ 9223372036854775806 ∷ [])
    ∷ []) ∷
    -- DAILY from 253402300800
    refused_by 3 253402300800 [] Refusal.StartOut ∷
    []

-- Further cases: document 01's refusals and other charts, and edges that the starred ones pass by.
unfoldable pub further : List Case
unfolding rule_of
further =
    -- frequency 7; week start 7; UNTIL 253402300800
    refused_by 7 1704067200 ([]) Refusal.FrequencyAbove ∷
    refused_by 3 1704067200 (WKST 7) Refusal.WeekStartAbove ∷
    refused_by 3 1704067200 (UNTIL 253402300800) Refusal.UntilOut ∷
    -- BYHOUR=24,8: 5. BYHOUR=8,8 or 9,8: 6. BYHOUR=9,8 with BYMONTH=13: 5. BYMONTHDAY=0: 5. BYMONTHDAY=1,-1: 6
    refused_by 3 1704067200 (BYHOUR (pos 24 ∷ pos 8 ∷ [])) Refusal.EntryOut ∷
    refused_by 3 1704067200 (BYHOUR (pos 8 ∷ pos 8 ∷ [])) Refusal.NotRising ∷
    refused_by 3 1704067200 (BYHOUR (pos 9 ∷ pos 8 ∷ [])) Refusal.NotRising ∷
    refused_by 3 1704067200 (BYHOUR (pos 9 ∷ pos 8 ∷ []) ++ BYMONTH (pos 13 ∷ [])) Refusal.EntryOut ∷
    refused_by 3 1704067200 (BYMONTHDAY (pos 0 ∷ [])) Refusal.EntryOut ∷
    refused_by 3 1704067200 (BYMONTHDAY (pos 1 ∷ neg_ℤ (pos 1) ∷ [])) Refusal.NotRising ∷
    -- BYSETPOS=0: 5. BYSETPOS=1,1: 6. BYDAY with a half missing: 5
    refused_by 3 1704067200 (BYSETPOS (pos 0 ∷ [])) Refusal.EntryOut ∷
    refused_by 3 1704067200 (BYSETPOS (pos 1 ∷ pos 1 ∷ [])) Refusal.NotRising ∷
    refused_by 1 1704067200 (BYDAY (pos 0 ∷ []) []) Refusal.EntryOut ∷
    refused_by 1 1704067200 (BYDAY [] (pos 0 ∷ [])) Refusal.EntryOut ∷
    -- BYDAY=MO,2TU: 7, with WEEKLY too. WEEKLY;BYDAY=2TU: 8. YEARLY;BYWEEKNO=1;BYDAY=1MO: 8. DAILY;BYSETPOS=1: 9
    refused_by 1 1704067200 (BYDAY (pos 0 ∷ pos 2 ∷ []) (pos 0 ∷ pos 1 ∷ [])) Refusal.MixedDays ∷
    refused_by 2 1704067200 (BYDAY (pos 0 ∷ pos 2 ∷ []) (pos 0 ∷ pos 1 ∷ [])) Refusal.MixedDays ∷
    refused_by 2 1704067200 (BYDAY (pos 2 ∷ []) (pos 1 ∷ [])) Refusal.NthMisplaced ∷
    refused_by 0 1704067200 (BYWEEKNO (pos 1 ∷ []) ++ BYDAY (pos 1 ∷ []) (pos 0 ∷ [])) Refusal.NthMisplaced ∷
    refused_by 3 1704067200 (BYSETPOS (pos 1 ∷ [])) Refusal.PositionsAlone ∷
    -- SECONDLY;BYSECOND=0;BYSETPOS=1;COUNT=1
    accepted 6 1704067200 (BYSECOND (pos 0 ∷ []) ++ BYSETPOS (pos 1 ∷ []) ++ COUNT 1)
    (with 1 9 ∷ [])
    (told Stop.Ended (State.Ended Cause.Count) 0 1 1 0 1 (1704067200 ∷ [])
    ∷ []) ∷
    -- a buffer of no length on a running cursor
    accepted 3 1704067200 ([])
    (with 0 9 ∷ [])
    (told Stop.More State.Running 0 0 0 0 0 ([])
    ∷ []) ∷
    -- the buffer fills with a period's last candidate: More, and then Limited
    accepted 3 1704067200 ([])
    (with 1 0 ∷ with 1 0 ∷ [])
    (told Stop.More State.Running 0 1 1 0 1 (1704067200 ∷ [])
    ∷ told Stop.Limited State.Running 0 1 1 0 0 (9223372036854775807 ∷ [])
    ∷ []) ∷
    -- HOURLY;INTERVAL=2;BYHOUR=3 with m = 0: Limited; from 9999-12-31T22:00 NoTick, and HOURLY;BYHOUR=3 from there Range
    accepted 4 1704067200 (INTERVAL 2 ++ BYHOUR (pos 3 ∷ []))
    (with 1 0 ∷ [])
    (told Stop.Limited State.Running 0 0 0 0 0 (9223372036854775807 ∷ [])
    ∷ []) ∷
    accepted 4 253402293600 (INTERVAL 2 ++ BYHOUR (pos 3 ∷ []))
    (with 1 9 ∷ [])
    (told Stop.Ended (State.Ended Cause.NoTick) 0 0 0 0 0 (9223372036854775807 ∷ [])
    ∷ []) ∷
    accepted 4 253402293600 (BYHOUR (pos 3 ∷ []))
    (with 1 9 ∷ [])
    (told Stop.Ended (State.Ended Cause.Range) 0 0 0 0 0 (9223372036854775807 ∷ [])
    ∷ []) ∷
    -- WEEKLY;INTERVAL=2;BYDAY=MO;COUNT=2 from Wednesday 2024-01-03
    accepted 2 1704240000 (INTERVAL 2 ++ BYDAY (pos 0 ∷ []) (pos 0 ∷ []) ++ COUNT 2)
    (with 2 9 ∷ [])
    (told Stop.Ended (State.Ended Cause.Count) 2 1 2 2 2 (1705276800 ∷ 1706486400 ∷ [])
    ∷ []) ∷
    -- WEEKLY;BYDAY=FR,SA from 253402214400: one, then Range
    accepted 2 253402214400 (BYDAY (pos 0 ∷ pos 0 ∷ []) (pos 4 ∷ pos 5 ∷ []))
    (with 2 9 ∷ [])
    (told Stop.Ended (State.Ended Cause.Range) 0 1 1 0 1 (253402214400 ∷ 9223372036854775806 ∷ [])
    ∷ []) ∷
    -- YEARLY;BYDAY=53MO;COUNT=1 and BYDAY=-53MO;COUNT=1 from 2024-01-01: 30 December and 1 January
    accepted 0 1704067200 (BYDAY (pos 53 ∷ []) (pos 0 ∷ []) ++ COUNT 1)
    (with 1 9 ∷ [])
    (told Stop.Ended (State.Ended Cause.Count) 0 1 1 0 1 (1735516800 ∷ [])
    ∷ []) ∷
    accepted 0 1704067200 (BYDAY (neg_ℤ (pos 53) ∷ []) (pos 0 ∷ []) ++ COUNT 1)
    (with 1 9 ∷ [])
    (told Stop.Ended (State.Ended Cause.Count) 0 1 1 0 1 (1704067200 ∷ [])
    ∷ []) ∷
    -- YEARLY;BYMONTH=3;BYDAY=-1MO;COUNT=1 from 2024-01-01
    accepted 0 1704067200 (BYMONTH (pos 3 ∷ []) ++ BYDAY (neg_ℤ (pos 1) ∷ []) (pos 0 ∷ []) ++ COUNT 1)
    (with 1 9 ∷ [])
    (told Stop.Ended (State.Ended Cause.Count) 0 1 1 0 1 (1711324800 ∷ [])
    ∷ []) ∷
    last_week ∷
    -- YEARLY;BYWEEKNO=1;COUNT=1 from 9999-12-27: in week 1 of 10000 there is none, for 10000-01-01 is a Saturday
    accepted 0 253401868800 (BYWEEKNO (pos 1 ∷ []))
    (with 1 9 ∷ [])
    (told Stop.Ended (State.Ended Cause.Range) 0 7 0 0 0 (9223372036854775807 ∷ [])
    ∷ []) ∷
    -- BYWEEKNO=1 from 1970-01-01, a Thursday, in week 1 of 1970; with weeks from Sunday it is in the last week of 1969
    accepted 0 0 (BYWEEKNO (pos 1 ∷ []) ++ COUNT 1)
    (with 1 9 ∷ [])
    (told Stop.Ended (State.Ended Cause.Count) 0 1 1 0 1 (0 ∷ [])
    ∷ []) ∷
    accepted 0 0 (BYWEEKNO (neg_ℤ (pos 1) ∷ []) ++ WKST 6 ++ COUNT 1)
    (with 1 9 ∷ [])
    (told Stop.Ended (State.Ended Cause.Count) 0 1 1 0 1 (0 ∷ [])
    ∷ []) ∷
    -- UNTIL before the start: a candidate above it ends the run
    accepted 3 1704067200 (UNTIL 1)
    (with 1 9 ∷ [])
    (told Stop.Ended (State.Ended Cause.Until) 0 0 0 0 0 (9223372036854775807 ∷ [])
    ∷ []) ∷
    -- COUNT 0 with INTERVAL 0, and INTERVAL 0: 10. COUNT with UNTIL: 11. DAILY;BYWEEKNO=1, MONTHLY;BYYEARDAY=1 and WEEKLY;BYMONTHDAY=-1: 12
    refused_by 3 1704067200 (COUNT 0 ++ INTERVAL 0) Refusal.Nought ∷
    refused_by 3 1704067200 (INTERVAL 0) Refusal.Nought ∷
    refused_by 3 1704067200 (COUNT 3 ++ UNTIL 0) Refusal.CountAndUntil ∷
    refused_by 3 1704067200 (BYWEEKNO (pos 1 ∷ [])) Refusal.ListMisplaced ∷
    refused_by 1 1704067200 (BYYEARDAY (pos 1 ∷ [])) Refusal.ListMisplaced ∷
    refused_by 2 1704067200 (BYMONTHDAY (neg_ℤ (pos 1) ∷ [])) Refusal.ListMisplaced ∷
    -- MONTHLY;BYMONTHDAY=31;BYHOUR=9;BYSETPOS=-1;COUNT=2 from 2024-01-01
    accepted 1 1704067200 (BYMONTHDAY (pos 31 ∷ []) ++ BYHOUR (pos 9 ∷ []) ++ BYSETPOS (neg_ℤ (pos 1) ∷ []) ++ COUNT 2)
    (with 2 9 ∷ [])
    (told Stop.Ended (State.Ended Cause.Count) 2 1 2 2 2 (1706691600 ∷ 1711875600 ∷ [])
    ∷ []) ∷
    []
