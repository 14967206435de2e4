-- Where the search for a tick that passes leads a counter.
-- Assumes nothing.
use Rattle.std.specs.Prelude.{Err}
use Prim.Native.Nat.{ℕ, ◌+◌, ◌<◌}
use mathlib.Core.Path.{◌≡◌, refl, sym, ap, ◌∙◌}
use mathlib.Core.Bool.{Bool}
use mathlib.Core.List.{List}
use Rattle.machine.specs.declared.Cause.{Cause}
use Rattle.machine.specs.Given.{Move, Move.To, Move.NoTick, Move.Range}
use Rattle.rule.specs.declared.rrule.Frequency.{Frequency}
use Rattle.rule.specs.Moves.{ticks}
use Rattle.periods.specs.declared.counter_date.Counter.{Counter}
use Rattle.periods.specs.Counters.{limit_of, below}
use Rattle.ticks.specs.Ticks.{first_tick}
use Rattle.ticks.proofs.Searches.{later, search_later}
use Rattle.moves.specs.Increments.{ahead, arrive}
use Rattle.moves.proofs.Ahead.{tick_ahead, ahead_ahead}

-- where the search ends, in range or not
pub arrived : (freq : Frequency) (limit step n : ℕ) (c d : Counter) → limit_of freq ≡ limit → d ≡ ahead (ticks freq) step c n
    → below limit d ≡ arrive freq step c (To n)
unfolding arrive
arrived freq limit step n c d l e = rw (e, l)

pub not_arrived : (freq : Frequency) (step : ℕ) (c : Counter) → Err Cause.NoTick ≡ arrive freq step c NoTick
unfolding arrive
not_arrived freq step c = refl

module _ (freq : Frequency) (step : ℕ) (c : Counter) (some : 0 < ticks freq) where
  abbrev off : ℕ → Counter
  off m = ahead (ticks freq) step c m

  arrive_later : (m : ℕ) (v : Move) → arrive freq step c (later m v) ≡ arrive freq step (off m) v
  unfolding arrive
  arrive_later m (To j) = ap (below (limit_of freq)) (sym (ahead_ahead (ticks freq) step some c m j))
  arrive_later m NoTick = refl
  arrive_later m Range = refl

  -- a search from the counter m periods on is a search m periods later
  pub arrives_later : (clock : List Bool) (m n i : ℕ)
      → arrive freq step (off m) (first_tick freq step (off m).tick clock n i)
      ≡ arrive freq step c (first_tick freq step c.tick clock n (m + i))
  arrives_later clock m n i =
      sym (ap (arrive freq step c)
      (search_later freq step c.tick clock m n i
      ∙ ap (λ (t : ℕ). later m (first_tick freq step t clock n i)) (sym (tick_ahead (ticks freq) step c m)))
      ∙ arrive_later m (first_tick freq step (off m).tick clock n i))
