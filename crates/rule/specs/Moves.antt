-- A move: in words, and computed.
-- Assumes nothing.
use Rattle.std.specs.Prelude.{ℕ, zero, suc, ◌+◌, ◌-◌, ◌/◌, ◌%◌, ◌≤◌, ◌<◌, ◌≡◌, Bool, true, false, if◌then◌else◌}
use Rattle.machine.specs.Given.{Move, Move.To, Move.NoTick, Move.Range}
use Rattle.rule.specs.declared.rrule.Frequency.{Frequency}
use Rattle.rule.specs.declared.rrule.Rule.{Rule}
use Rattle.rule.specs.Instants.{day_of}
use Rattle.rule.specs.Filling.{is_below}
use Rattle.rule.specs.Days.{day_passes}
use Rattle.rule.specs.Times.{tick_passes}
use Rattle.rule.specs.Periods.{period, in_range}

-- the day on which period k begins; whether its hour, minute and second pass, as far as the period fixes them
abbrev pub day_in : Rule → ℕ → ℕ
day_in r k = day_of (period r k).begins

unfoldable pub tick_in : Rule → ℕ → Bool
unfolding tick_passes period
tick_in r k = tick_passes r r.freq (period r k).begins

-- HOURLY, MINUTELY or SECONDLY
abbrev pub fine : Rule → Bool
fine r = is_below Frequency.Daily r.freq

-- A later k that a move may go to: its hour, minute and second, as far as the period fixes them, pass;
-- where the day of period k doesn't pass, the new one is also on a later date.
pub record Lands (r : Rule) (k k' : ℕ) : Type 0 where
  pub later : k < k'
  pub tick : tick_in r k' ≡ true
  pub date : day_passes r (day_in r k) ≡ false → day_in r k < day_in r k'

-- the least number with a property
pub record Least (P : ℕ → Type 0) (n : ℕ) : Type 0 where
  pub holds : P n
  pub least : (i : ℕ) → P i → n ≤ i

-- Down to DAILY, to k + 1. Below it, to the least later k.
abbrev pub Next : Bool → Rule → ℕ → ℕ → Type 0
Next false r k k' = k' ≡ k + 1
Next true r k k' = Least (Lands r k) k'

-- If there is no such k however far the calendar runs, NoTick; if the new period begins after 9999, Range.
pub data Moves (r : Rule) (k : ℕ) : Move → Type 0 where
  moves : (k' : ℕ) → Next (fine r) r k k' → in_range r k' ≡ true → Moves r k (To k')
  no_tick : fine r ≡ true → ((k' : ℕ) → Lands r k k' → ⊥) → Moves r k NoTick
  range : (k' : ℕ) → Next (fine r) r k k' → in_range r k' ≡ false → Moves r k Range

-- Computed. How many periods a day has
abbrev pub ticks : Frequency → ℕ
ticks Frequency.Yearly = 1
ticks Frequency.Monthly = 1
ticks Frequency.Weekly = 1
ticks Frequency.Daily = 1
ticks Frequency.Hourly = 24
ticks Frequency.Minutely = 1440
ticks Frequency.Secondly = 86400

-- the first k of a later date: as many steps as cover what is left of the day
unfoldable pub next_day : Rule → ℕ → ℕ
unfolding period
next_day r k =
    let n : ℕ = ticks r.freq in
    let t : ℕ = (period r k).begins % 86400 / (86400 / n) in
    k + (n - 1 - t) / r.interval + 1

-- the first of n numbers from i on that passes
unfoldable pub first_from : (ℕ → Bool) → ℕ → ℕ → Move
first_from p zero i = NoTick
first_from p (suc n) i = elim (p i) [ true ↦ To i | false ↦ first_from p n (i + 1) ]

-- The ticks repeat with the day: as many as a day has periods are tried.
unfoldable pub target : Rule → ℕ → Move
unfolding first_from next_day tick_in day_passes period
target r k =
    if fine r
    then first_from (tick_in r) (ticks r.freq) (if day_passes r (day_in r k) then k + 1 else next_day r k)
    else To (k + 1)

unfoldable pub bounded : Rule → Move → Move
unfolding in_range
bounded r (To k) = if in_range r k then To k else Range
bounded r NoTick = NoTick
bounded r Range = Range

unfoldable pub move : Rule → ℕ → Move
unfolding bounded target
move r k = bounded r (target r k)
