-- What is claimed of the counters' definitions; proofs/ has a proof of each claim, under the same name in small letters.
-- Assumes nothing.
use Rattle.std.specs.Prelude.{ℕ, ◌*◌, ◌/◌, ◌%◌, ◌≤◌, ◌≡◌, true, false, ltb, Ok, Err}
use Rattle.machine.specs.declared.Cause.{Cause}
use Rattle.rule.specs.declared.rrule.Frequency.{Frequency}
use Rattle.rule.specs.declared.rrule.Rule.{Rule}
use Rattle.rule.specs.Instants.{last_instant, day_of, hour_of, minute_of, second_of}
use Rattle.rule.specs.Periods.{period, in_range}
use Rattle.rule.specs.Moves.{fine, ticks}
use Rattle.periods.specs.declared.counter_date.Counter.{Counter}
use Rattle.periods.specs.Counters.{counter_at, rule_from, reached_at, limit_of}

-- A period begins in range where its number is below the limit.
abbrev pub InRangeIs : Type 0
InRangeIs = (r : Rule) (k : ℕ) → in_range r k ≡ ltb (counter_at r k).number (limit_of r.freq)

-- Where a period stands depends on four fields of the rule.
abbrev pub ReachedByFields : Type 0
ReachedByFields = (r : Rule) (k : ℕ) → reached_at r k ≡ reached_at (rule_from r.freq r.interval r.wkst r.start) k

-- A counter that is reached is the period's, which begins in range; where Range is told of a start in range it doesn't. No other cause is told here.
abbrev pub ReachedCounter : Type 0
ReachedCounter = (r : Rule) (k : ℕ) (c : Counter) → Ok c ≡ reached_at r k → (c ≡ counter_at r k) × (in_range r k ≡ true)

abbrev pub ReachedRange : Type 0
ReachedRange = (r : Rule) (k : ℕ) → r.start ≤ last_instant → Err Cause.Range ≡ reached_at r k → in_range r k ≡ false

abbrev pub NeverNoTick : Type 0
NeverNoTick = (r : Rule) (k : ℕ) → Err Cause.NoTick ≡ reached_at r k → ⊥

abbrev pub NoOtherCause : Type 0
NoOtherCause = (r : Rule) (k : ℕ) (cause : Cause) → Err cause ≡ reached_at r k → cause ≡ Cause.Range

-- Below DAILY a period begins on the day that is its number, and its tick is its place in that day.
abbrev pub DayIsNumber : Type 0
DayIsNumber = (r : Rule) (k : ℕ) → fine r ≡ true → day_of (period r k).begins ≡ (counter_at r k).number

abbrev pub PlaceIsTick : Type 0
PlaceIsTick = (r : Rule) (k : ℕ) → fine r ≡ true → (period r k).begins % 86400 ≡ (counter_at r k).tick * (86400 / ticks r.freq)

-- The tick of an hour is the hour.
abbrev pub HourlyHour : Type 0
HourlyHour = (r : Rule) (k : ℕ) → r.freq ≡ Frequency.Hourly → (counter_at r k).tick ≡ hour_of (period r k).begins

-- The tick of a minute is its hour and minute.
abbrev pub MinutelyHour : Type 0
MinutelyHour = (r : Rule) (k : ℕ) → r.freq ≡ Frequency.Minutely → (counter_at r k).tick / 60 ≡ hour_of (period r k).begins

abbrev pub MinutelyMinute : Type 0
MinutelyMinute = (r : Rule) (k : ℕ) → r.freq ≡ Frequency.Minutely → (counter_at r k).tick % 60 ≡ minute_of (period r k).begins

-- The tick of a second is its hour, minute and second.
abbrev pub SecondlyHour : Type 0
SecondlyHour = (r : Rule) (k : ℕ) → r.freq ≡ Frequency.Secondly → (counter_at r k).tick / 3600 ≡ hour_of (period r k).begins

abbrev pub SecondlyMinute : Type 0
SecondlyMinute = (r : Rule) (k : ℕ) → r.freq ≡ Frequency.Secondly → (counter_at r k).tick / 60 % 60 ≡ minute_of (period r k).begins

abbrev pub SecondlySecond : Type 0
SecondlySecond = (r : Rule) (k : ℕ) → r.freq ≡ Frequency.Secondly → (counter_at r k).tick % 60 ≡ second_of (period r k).begins
