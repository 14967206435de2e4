-- A move, over counters: from the counter of period k to that of the period it goes to.
-- Assumes nothing.
use Rattle.std.specs.Prelude.{ℕ, ◌+◌, ◌-◌, ◌*◌, ◌/◌, ◌%◌, Bool, true, false, ◌&&◌, List, leb, ltb, if◌then◌else◌, Result, Ok, Err}
use Rattle.machine.specs.declared.Cause.{Cause}
use Rattle.machine.specs.Given.{Move, Move.To, Move.NoTick, Move.Range}
use Rattle.rule.specs.declared.rrule.Frequency.{Frequency}
use Rattle.rule.specs.declared.rrule.Rule.{Rule}
use Rattle.rule.specs.Filling.{is_below}
use Rattle.rule.specs.Moves.{ticks}
use Rattle.periods.specs.declared.counter_date.Counter.{Counter}
use Rattle.periods.specs.Counters.{step_of, counter_at, limit_of, below}
use Rattle.ticks.specs.Ticks.{first_tick}

-- the counter n periods on, each a step further, where a day has so many periods
unfoldable pub ahead : ℕ → ℕ → Counter → ℕ → Counter
ahead perday step c n =
    let sum : ℕ = c.number * perday + c.tick + n * step in
    record { k = c.k + n; number = sum / perday; tick = sum % perday }

-- How many periods are passed over unseen: none where the day passes, else those that are left of the day.
unfoldable pub skipped : ℕ → ℕ → ℕ → Bool → ℕ
skipped perday step tick true = 0
skipped perday step tick false = (perday - 1 - tick) / step

-- The period that a move goes to, if no earlier than number i. Down to DAILY it is that; below it the first whose tick passes: the ticks
-- repeat with the day, so as many as a day has periods are tried.
unfoldable pub landing : Frequency → ℕ → Counter → List Bool → ℕ → Move
unfolding first_tick
landing freq step c clock i =
    if is_below Frequency.Daily freq then first_tick freq step c.tick clock (ticks freq) i else To i

-- the counter n periods on, where it begins in range
unfoldable pub arrive : Frequency → ℕ → Counter → Move → Result Counter Cause
unfolding below ahead limit_of
arrive freq step c (To n) = below (limit_of freq) (ahead (ticks freq) step c n)
arrive freq step c NoTick = Err Cause.NoTick
arrive freq step c Range = Err Cause.Range

-- Whether a counter may be that of a period in range, where INTERVAL is at least 1, numbers stay below a limit and a day has so many periods.
-- Its k is at most 2^40, as each period takes a second or more.
abbrev pub fits : (limit perday interval : ℕ) → Counter → Bool
fits limit perday interval c = ltb 0 interval && leb c.k 1099511627776 && ltb c.number limit && ltb c.tick perday

unfoldable pub stands : Frequency → ℕ → Counter → Bool
unfolding limit_of
stands freq interval c = fits (limit_of freq) (ticks freq) interval c

-- The move from a counter, whose day passes or not. From what is no counter of a period in range, Range.
unfoldable pub incremented : Frequency → ℕ → Counter → Bool → List Bool → Result Counter Cause
unfolding stands arrive landing skipped step_of
incremented freq interval c passes clock =
    let step : ℕ = step_of freq interval in
    if stands freq interval c
    then arrive freq step c (landing freq step c clock (skipped (ticks freq) step c.tick passes + 1))
    else Err Cause.Range

-- a move of a rule, with the counter of the period that it goes to
unfoldable pub reached_by : Rule → Move → Result Counter Cause
unfolding counter_at
reached_by r (To k) = Ok (counter_at r k)
reached_by r NoTick = Err Cause.NoTick
reached_by r Range = Err Cause.Range
