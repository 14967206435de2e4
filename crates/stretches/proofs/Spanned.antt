-- The days of a period are those of its number, where it begins in range.
-- Assumes nothing.
use Prim.Native.Nat.{ℕ, ◌+◌, ◌*◌, ◌/◌, min, ◌≤◌, ◌<◌}
use mathlib.Core.Path.{◌≡◌, sym, ◌∙◌}
use mathlib.Core.Bool.{true}
use native.Mathlib.Nat.{mul_left_comm}
use native.Mathlib.Omega.{arith}
use lib.Dec.{ltb}
use borrow.Author.Tests.{lt-ltb, le-ltb}
use Rattle.calendar.specs.Calendar.{new_year, year_of}
use Rattle.rule.specs.declared.rrule.Frequency.{Frequency}
use Rattle.rule.specs.Instants.{second, range_end, day_of}
use Rattle.rule.specs.Days.{week_of}
use Rattle.rule.specs.Periods.{week, month, period_after, period}
use Rattle.rule.specs.Moves.{ticks}
use Rattle.rule.proofs.Order.{first, month_in}
use Rattle.periods.specs.Counters.{number_of, step_of, counter_at, limit_of}
use Rattle.periods.proofs.Counted.{in_range_is}
use Rattle.stretches.specs.Claims.{FirstDayIs, LastDayIs, DaysOfPeriod}
use Rattle.stretches.specs.Stretches.{days_at, days_in}

-- the period with a number has days below the limit, and none from it on
pub days_below : (f : Frequency) (n : ℕ) → n < limit_of f → days_at f n ≡ days_in f n
unfolding days_in
days_below f n h = rw (lt-ltb n (limit_of f) h)

pub days_past : (f : Frequency) (n : ℕ) → limit_of f ≤ n → record { from = 0; to = 0 } ≡ days_in f n
unfolding days_in
days_past f n h = rw (le-ltb n (limit_of f) h)

-- The days of a period: of each frequency where it begins, and the day after the last that it reaches into.
year_first : (y : ℕ) → day_of (new_year y * 86400) ≡ new_year (y / 1)
year_first y = let e : y / 1 ≡ y = omega arith in rw e (omega arith)

year_last : (y : ℕ) → (new_year (y + 1) * 86400 + 86399) / 86400 ≡ new_year (y / 1 + 1)
year_last y = let e : y / 1 ≡ y = omega arith in rw e (omega arith)

month_first : (n : ℕ) → day_of (first n * 86400) ≡ first (n / 1)
month_first n = let e : n / 1 ≡ n = omega arith in rw e (omega arith)

month_last : (n : ℕ) → (first (n + 1) * 86400 + 86399) / 86400 ≡ first (n / 1 + 1)
month_last n = let e : n / 1 ≡ n = omega arith in rw e (omega arith)

week_first : (w n : ℕ) → day_of (week w n).begins ≡ (w + 7 * n) / 1
week_first w n = omega arith

week_last : (w n : ℕ) → ((week w n).ends + 86399) / 86400 ≡ min ((w + 7 * n) / 1 + 7) range_end
week_last w n = omega arith

module _ (wkst s k i : ℕ) where
  first_day_after : (f : Frequency)
      → day_of (period_after f wkst s (k * i)).begins ≡ (days_at f ((number_of f wkst s + k * step_of f i) / ticks f)).from
  unfolding period_after month number_of step_of days_at
  first_day_after Frequency.Yearly = year_first (year_of (day_of s) + k * i)
  first_day_after Frequency.Monthly = month_first (month_in (day_of s) + k * i)
  first_day_after Frequency.Weekly = rw (mul_left_comm k 7 i) (week_first (week_of wkst (day_of s)) (k * i))
  first_day_after Frequency.Daily = omega arith
  first_day_after Frequency.Hourly = omega arith
  first_day_after Frequency.Minutely = omega arith
  first_day_after Frequency.Secondly = omega arith

  last_day_after : (f : Frequency)
      → ((period_after f wkst s (k * i)).ends + 86399) / 86400 ≡ (days_at f ((number_of f wkst s + k * step_of f i) / ticks f)).to
  unfolding period_after month number_of step_of days_at
  last_day_after Frequency.Yearly = year_last (year_of (day_of s) + k * i)
  last_day_after Frequency.Monthly = month_last (month_in (day_of s) + k * i)
  last_day_after Frequency.Weekly = rw (mul_left_comm k 7 i) (week_last (week_of wkst (day_of s)) (k * i))
  last_day_after Frequency.Daily = omega arith
  last_day_after Frequency.Hourly = omega arith
  last_day_after Frequency.Minutely = omega arith
  last_day_after Frequency.Secondly = omega arith

pub first_day_is : FirstDayIs
unfolding period counter_at
first_day_is r k = first_day_after r.wkst (second r.start) k r.interval r.freq

pub last_day_is : LastDayIs
unfolding period counter_at
last_day_is r k = last_day_after r.wkst (second r.start) k r.interval r.freq

pub days_of_period : DaysOfPeriod
unfolding days_in
days_of_period r k i =
    let b : ltb (counter_at r k).number (limit_of r.freq) ≡ true = sym (in_range_is r k) ∙ i in
    rw (b, first_day_is r k, last_day_is r k)
