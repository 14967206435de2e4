-- The ticks of the day: which pass, and how many periods on the next that passes is.
-- Assumes nothing.
use Rattle.std.specs.Prelude.{ℕ, ◌+◌, ◌*◌, ◌/◌, ◌%◌, Bool, true, false, ◌&&◌, List, get_or, ltb, if◌then◌else◌, Option, Some, None}
use Rattle.machine.specs.Given.{Move, Move.To, Move.NoTick, Move.Range}
use Rattle.rule.specs.declared.rrule.Frequency.{Frequency}
use Rattle.rule.specs.Moves.{ticks, first_from}
use Rattle.ticks.specs.declared.counter_date.Hit.{Hit}

-- Whether a tick of the day passes: its hour, and its minute and second as far as the frequency fixes them, have their flags.
unfoldable pub tick_is_in : Frequency → List Bool → ℕ → Bool
tick_is_in Frequency.Yearly clock t = true
tick_is_in Frequency.Monthly clock t = true
tick_is_in Frequency.Weekly clock t = true
tick_is_in Frequency.Daily clock t = true
tick_is_in Frequency.Hourly clock t = get_or clock t false
tick_is_in Frequency.Minutely clock t = get_or clock (t / 60) false && get_or clock (24 + t % 60) false
tick_is_in Frequency.Secondly clock t = get_or clock (t / 3600) false && get_or clock (24 + t / 60 % 60) false && get_or clock (84 + t % 60) false

-- the tick n periods on from a tick, each a step further, where a day has so many
abbrev pub tick_on : (perday step tick n : ℕ) → ℕ
tick_on perday step tick n = (tick + n * step) % perday

-- the first of n periods, from number i on, whose tick passes
unfoldable pub first_tick : Frequency → ℕ → ℕ → List Bool → ℕ → ℕ → Move
unfolding tick_is_in first_from
first_tick freq step tick clock n i = first_from (λ j. tick_is_in freq clock (tick_on (ticks freq) step tick j)) n i

-- what a search tells, where it goes from a tick of the day
abbrev pub found_by : (perday step tick : ℕ) → Move → Option Hit
found_by perday step tick (To n) = Some record { periods = n; tick = tick_on perday step tick n }
found_by perday step tick NoTick = None
found_by perday step tick Range = None

-- The first later tick that passes, a step of INTERVAL from tick to tick. The ticks repeat with the day: as many as a day has periods are
-- tried. From what is no tick of the day, none.
unfoldable pub next_tick : Frequency → ℕ → ℕ → List Bool → Option Hit
unfolding first_tick
next_tick freq interval tick clock =
    if ltb tick (ticks freq)
    then found_by (ticks freq) interval tick (first_tick freq interval tick clock (ticks freq) 1)
    else None
