-- The ticks of a day and the seconds of a unit.
-- Assumes nothing.
use Prim.Native.Nat.{ℕ, ◌*◌, ◌/◌, ◌≤◌, ◌<◌}
use native.Mathlib.Omega.{arith}
use Rattle.rule.specs.declared.rrule.Frequency.{Frequency}
use Rattle.rule.specs.Moves.{ticks}

pub few_ticks : (f : Frequency) → ticks f ≤ 86400
few_ticks Frequency.Yearly = omega arith
few_ticks Frequency.Monthly = omega arith
few_ticks Frequency.Weekly = omega arith
few_ticks Frequency.Daily = omega arith
few_ticks Frequency.Hourly = omega arith
few_ticks Frequency.Minutely = omega arith
few_ticks Frequency.Secondly = omega arith

pub unit_small : (f : Frequency) → 86400 / ticks f ≤ 86400
unit_small Frequency.Yearly = omega arith
unit_small Frequency.Monthly = omega arith
unit_small Frequency.Weekly = omega arith
unit_small Frequency.Daily = omega arith
unit_small Frequency.Hourly = omega arith
unit_small Frequency.Minutely = omega arith
unit_small Frequency.Secondly = omega arith

-- a tick is one of the day's exactly where its second is
pub past_ticks : (f : Frequency) (t : ℕ) → 86400 ≤ t * (86400 / ticks f) → ticks f ≤ t
past_ticks Frequency.Yearly t h = omega arith
past_ticks Frequency.Monthly t h = omega arith
past_ticks Frequency.Weekly t h = omega arith
past_ticks Frequency.Daily t h = omega arith
past_ticks Frequency.Hourly t h = omega arith
past_ticks Frequency.Minutely t h = omega arith
past_ticks Frequency.Secondly t h = omega arith

pub within_ticks : (f : Frequency) (t : ℕ) → t * (86400 / ticks f) < 86400 → t < ticks f
within_ticks Frequency.Yearly t h = omega arith
within_ticks Frequency.Monthly t h = omega arith
within_ticks Frequency.Weekly t h = omega arith
within_ticks Frequency.Daily t h = omega arith
within_ticks Frequency.Hourly t h = omega arith
within_ticks Frequency.Minutely t h = omega arith
within_ticks Frequency.Secondly t h = omega arith
