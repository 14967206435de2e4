-- `ticks::counter_date::find_tick` meets its contract. The invariant: the tick is that of the period before, and the search goes on from here.
-- Assumes nothing.
use mathlib.Core.Path.{◌≡◌}
use Prim.Native.Nat.{◌+◌, ◌-◌}
use Rattle.ticks.specs.Ticks.{tick_on, first_tick}
use Rattle.ticks.proofs.counter_date.find_tick.Given as goal

abbrev pub invariant-loop-periods : goal.invariant-loop-periods
invariant-loop-periods l =
    (l.at ≡ tick_on l.perday l.interval l.tick (l.periods - 1))
    × (first_tick l.freq l.interval l.tick l.clock l.perday 1 ≡ first_tick l.freq l.interval l.tick l.clock (l.perday + 1 - l.periods) l.periods)
