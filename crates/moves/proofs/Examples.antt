-- Moves, computed. 2024-01-01 is the day 738885, and 9999-12-31 the day 3652058.
-- Assumes nothing.
use Rattle.std.specs.Prelude.{Result, Ok, Err}
use Prim.Native.Nat.{ℕ}
use mathlib.Core.Path.{◌≡◌, refl}
use mathlib.Core.Bool.{Bool, true, false, ◌||◌}
use mathlib.Core.List.{List}
use lib.Dec.{eqb, leb}
use Rattle.machine.specs.declared.Cause.{Cause}
use Rattle.rule.specs.declared.rrule.Frequency.{Frequency}
use Rattle.rule.specs.Lists.{flags}
use Rattle.periods.specs.declared.counter_date.Counter.{Counter}
use Rattle.moves.specs.Increments.{incremented}

abbrev at : ℕ → ℕ → ℕ → Counter
at k number tick = record { k = k; number = number; tick = tick }

-- BYHOUR=3, and no BYMINUTE or BYSECOND
unfoldable pub three : List Bool
unfolding flags
three = flags (λ i. eqb 3 i || leb 24 i) 144 0

unfoldable pub every : List Bool
unfolding flags
every = flags (λ i. true) 144 0

-- from a counter whose day passes, and from one whose day doesn't
abbrev onward : Frequency → ℕ → Counter → Result Counter Cause
onward freq interval c = incremented freq interval c true three

abbrev away_from : Frequency → ℕ → Counter → Result Counter Cause
away_from freq interval c = incremented freq interval c false three

-- MINUTELY;INTERVAL=90;BYHOUR=3 from 00:00 lands on 03:00, two periods on, and then on 03:00 of the next day
pub on_the_grid : onward Frequency.Minutely 90 (at 0 738885 0) ≡ Ok (at 2 738885 180)
unfolding incremented three every
on_the_grid = refl

pub next_day_lem : onward Frequency.Minutely 90 (at 2 738885 180) ≡ Ok (at 18 738886 180)
unfolding incremented three every
next_day_lem = refl

-- HOURLY;INTERVAL=2;BYHOUR=3 from 00:00 has no tick, and on the last day of 9999 it has none either; with INTERVAL=1 the range ends there
pub no_tick : onward Frequency.Hourly 2 (at 0 738885 0) ≡ Err Cause.NoTick
unfolding incremented three every
no_tick = refl

pub no_tick_at_the_end : onward Frequency.Hourly 2 (at 11 3652058 22) ≡ Err Cause.NoTick
unfolding incremented three every
no_tick_at_the_end = refl

pub range_at_the_end : onward Frequency.Hourly 1 (at 22 3652058 22) ≡ Err Cause.Range
unfolding incremented three every
range_at_the_end = refl

-- the last tick of the cycle is tried too: HOURLY;INTERVAL=1;BYHOUR=3 from 03:00, and HOURLY;INTERVAL=5 from 22:00, which comes to 03:00 at once
pub whole_cycle : onward Frequency.Hourly 1 (at 0 738885 3) ≡ Ok (at 24 738886 3)
unfolding incremented three every
whole_cycle = refl

pub at_once : onward Frequency.Hourly 5 (at 0 738885 22) ≡ Ok (at 1 738886 3)
unfolding incremented three every
at_once = refl

-- A day that doesn't pass is left in one step: HOURLY;INTERVAL=7 from 13:00 goes past 20:00 to 03:00, though every hour passes.
-- HOURLY;BYHOUR=3 from 01:00 goes past 03:00 to that of the next day. MINUTELY;INTERVAL=480 from 03:00: three periods are a day.
pub later_date : incremented Frequency.Hourly 7 (at 0 738885 13) false every ≡ Ok (at 2 738886 3)
unfolding incremented every
later_date = refl

pub past_the_hour : away_from Frequency.Hourly 1 (at 0 738885 1) ≡ Ok (at 26 738886 3)
unfolding incremented three every
past_the_hour = refl

pub whole_day : away_from Frequency.Minutely 480 (at 0 738885 180) ≡ Ok (at 3 738886 180)
unfolding incremented three every
whole_day = refl

-- A step of more than a day: HOURLY;INTERVAL=25 from 02:00.
pub days_and_a_tick : onward Frequency.Hourly 25 (at 0 738885 2) ≡ Ok (at 1 738886 3)
unfolding incremented three every
days_and_a_tick = refl

-- SECONDLY from 02:59:59 to 03:00:00
pub next_second : onward Frequency.Secondly 1 (at 7 738885 10799) ≡ Ok (at 8 738885 10800)
unfolding incremented three every
next_second = refl

-- down to DAILY
pub next_year : onward Frequency.Yearly 4 (at 0 2024 0) ≡ Ok (at 1 2028 0)
unfolding incremented
next_year = refl

pub next_week : away_from Frequency.Weekly 2 (at 1 738885 0) ≡ Ok (at 2 738899 0)
unfolding incremented
next_week = refl

pub last_month : onward Frequency.Monthly 1 (at 5 119999 0) ≡ Err Cause.Range
unfolding incremented
last_month = refl

-- no counter of a period in range: INTERVAL 0, the day after 9999, an hour 24
pub no_interval : onward Frequency.Daily 0 (at 0 738885 0) ≡ Err Cause.Range
unfolding incremented
no_interval = refl

pub no_day_lem : onward Frequency.Daily 1 (at 0 3652059 0) ≡ Err Cause.Range
unfolding incremented
no_day_lem = refl

pub no_hour : onward Frequency.Hourly 1 (at 0 738885 24) ≡ Err Cause.Range
unfolding incremented
no_hour = refl
