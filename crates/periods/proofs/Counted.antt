-- What a counter tells of its period: whether it begins in range, and its hour, minute and second.
-- Assumes nothing.
use Prim.Native.Nat.{ℕ, ◌+◌, ◌*◌, ◌/◌, ◌%◌, ◌≤◌, ◌<◌}
use mathlib.Core.Path.{◌≡◌, refl, sym, ◌∙◌, ap, subst⁻¹}
use mathlib.Core.Logic.{⊎_elim}
use mathlib.Core.Bool.{Bool, true, false}
use native.Mathlib.Nat.{mul_left_comm}
use native.Mathlib.Omega.{arith}
use lib.Dec.{T, ltb, leb}
use borrow.Author.Tests.{lt-ltb, le-ltb, leb-true}
use Rattle.calendar.specs.Calendar.{leap, new_year, month_length, days_before_month, first_of, year_of}
use Rattle.calendar.proofs.Table.{same_below}
use Rattle.calendar.proofs.Years.{years_rise, years_grow, year_of_is}
use Rattle.rule.specs.declared.rrule.Frequency.{Frequency}
use Rattle.rule.specs.declared.rrule.Rule.{Rule}
use Rattle.rule.specs.Instants.{second, range_end, day_of}
use Rattle.rule.specs.Days.{week_of}
use Rattle.rule.specs.Filling.{is_below}
use Rattle.rule.specs.Periods.{week, month, period_after, period, in_range}
use Rattle.rule.specs.Moves.{fine, ticks}
use Rattle.rule.proofs.Order.{below_or, first, month_next, months_rise, month_in, month_low}
use Rattle.periods.specs.Claims.{InRangeIs, DayIsNumber, PlaceIsTick}
use Rattle.periods.specs.Claims.{HourlyHour, MinutelyHour, MinutelyMinute, SecondlyHour, SecondlyMinute, SecondlySecond}
use Rattle.periods.specs.Counters.{number_of, step_of, counter_at, limit_of}

-- two tests with one answer
same_test : (a b c d : ℕ) → (a < b → c < d) → (b ≤ a → d ≤ c) → ltb a b ≡ ltb c d
same_test a b c d f g =
    ⊎_elim
    (λ (l : a < b). lt-ltb a b l ∙ sym (lt-ltb c d (f l)))
    (λ (l : b ≤ a). le-ltb a b l ∙ sym (le-ltb c d (g l)))
    (below_or a b)

-- the year 10000 and its first month begin where the range ends
pub year_limit : new_year 10000 ≡ range_end
unfolding new_year
year_limit = refl

pub month_limit : first 120000 ≡ range_end
unfolding first_of days_before_month new_year
month_limit = refl

some_days : (long : Bool) (m : ℕ) → m < 12 → 1 ≤ month_length long (m + 1)
unfolding month_length
some_days true m h = leb-true _ _ (same_below (λ (m : ℕ). leb 1 (month_length true (m + 1))) (λ (m : ℕ). true) true 12 refl m h)
some_days false m h = leb-true _ _ (same_below (λ (m : ℕ). leb 1 (month_length false (m + 1))) (λ (m : ℕ). true) true 12 refl m h)

year_in_range : (y : ℕ) → 1 ≤ y → ltb (new_year y * 86400) (range_end * 86400) ≡ ltb (y / 1) 10000
year_in_range y l =
    sym (same_test (y / 1) 10000 (new_year y * 86400) (range_end * 86400)
    (λ (h : y / 1 < 10000). omega (arith, year_limit, years_grow y l, years_rise (y + 1) 10000 (omega arith) (omega arith)))
    (λ (h : 10000 ≤ y / 1). omega (arith, year_limit, years_rise 10000 y (omega arith) (omega arith))))

month_in_range : (n : ℕ) → 12 ≤ n → ltb (first n * 86400) (range_end * 86400) ≡ ltb (n / 1) 120000
month_in_range n l =
    sym (same_test (n / 1) 120000 (first n * 86400) (range_end * 86400)
    (λ (h : n / 1 < 120000).
    omega (arith, month_limit, month_next n l, some_days (leap (n / 12)) (n % 12) (omega arith), months_rise (n + 1) 120000 (omega arith) (omega arith)))
    (λ (h : 120000 ≤ n / 1). omega (arith, month_limit, months_rise 120000 n (omega arith) (omega arith))))

-- week n after the one that begins on the day w
week_in_range : (w n : ℕ) → ltb (week w n).begins (range_end * 86400) ≡ ltb ((w + 7 * n) / 1) range_end
week_in_range w n =
    same_test ((w + 7 * n) * 86400) (range_end * 86400) ((w + 7 * n) / 1) range_end
    (λ (l : (w + 7 * n) * 86400 < range_end * 86400). omega arith)
    (λ (l : range_end * 86400 ≤ (w + 7 * n) * 86400). omega arith)

-- a period of so many units after that of the second s, and its number
module _ (wkst s : ℕ) where
  in_range_after : (f : Frequency) (k i : ℕ)
      → ltb (period_after f wkst s (k * i)).begins (range_end * 86400) ≡ ltb ((number_of f wkst s + k * step_of f i) / ticks f) (limit_of f)
  unfolding period_after month number_of step_of limit_of
  in_range_after Frequency.Yearly k i = year_in_range (year_of (day_of s) + k * i) (omega (arith, (year_of_is (day_of s)).low))
  in_range_after Frequency.Monthly k i = month_in_range (month_in (day_of s) + k * i) (omega (arith, month_low (day_of s)))
  in_range_after Frequency.Weekly k i = rw (mul_left_comm k 7 i) (week_in_range (week_of wkst (day_of s)) (k * i))
  in_range_after Frequency.Daily k i =
      same_test ((s / 86400 + k * i) * 86400) (range_end * 86400) ((s / 86400 + k * i) / 1) range_end
      (λ (h : (s / 86400 + k * i) * 86400 < range_end * 86400). omega arith) (λ (h : range_end * 86400 ≤ (s / 86400 + k * i) * 86400). omega arith)
  in_range_after Frequency.Hourly k i =
      same_test ((s / 3600 + k * i) * 3600) (range_end * 86400) ((s / 3600 + k * i) / 24) range_end
      (λ (h : (s / 3600 + k * i) * 3600 < range_end * 86400). omega arith) (λ (h : range_end * 86400 ≤ (s / 3600 + k * i) * 3600). omega arith)
  in_range_after Frequency.Minutely k i =
      same_test ((s / 60 + k * i) * 60) (range_end * 86400) ((s / 60 + k * i) / 1440) range_end
      (λ (h : (s / 60 + k * i) * 60 < range_end * 86400). omega arith) (λ (h : range_end * 86400 ≤ (s / 60 + k * i) * 60). omega arith)
  in_range_after Frequency.Secondly k i =
      same_test ((s + k * i) * 1) (range_end * 86400) ((s + k * i) / 86400) range_end
      (λ (h : (s + k * i) * 1 < range_end * 86400). omega arith) (λ (h : range_end * 86400 ≤ (s + k * i) * 1). omega arith)

pub in_range_is : InRangeIs
unfolding in_range period counter_at
in_range_is r k = in_range_after r.wkst (second r.start) r.freq k r.interval

-- Below DAILY: the period begins on the day that the counter numbers, and its tick is its place in that day.
abbrev Fine : Frequency → Type 0
Fine f = T (is_below Frequency.Daily f)

module _ (wkst s n : ℕ) where
  day_after : (f : Frequency) → Fine f → day_of (period_after f wkst s n).begins ≡ (number_of f wkst s + n) / ticks f
  unfolding period_after number_of
  day_after Frequency.Yearly h = absurd h
  day_after Frequency.Monthly h = absurd h
  day_after Frequency.Weekly h = absurd h
  day_after Frequency.Daily h = absurd h
  day_after Frequency.Hourly h = omega arith
  day_after Frequency.Minutely h = omega arith
  day_after Frequency.Secondly h = omega arith

  place_after : (f : Frequency) → Fine f → (period_after f wkst s n).begins % 86400 ≡ (number_of f wkst s + n) % ticks f * (86400 / ticks f)
  unfolding period_after number_of
  place_after Frequency.Yearly h = absurd h
  place_after Frequency.Monthly h = absurd h
  place_after Frequency.Weekly h = absurd h
  place_after Frequency.Daily h = absurd h
  place_after Frequency.Hourly h = omega arith
  place_after Frequency.Minutely h = omega arith
  place_after Frequency.Secondly h = omega arith

-- the step of a rule below DAILY is INTERVAL
fine_step : (f : Frequency) (i : ℕ) → Fine f → step_of f i ≡ i
unfolding step_of
fine_step Frequency.Yearly i h = absurd h
fine_step Frequency.Monthly i h = absurd h
fine_step Frequency.Weekly i h = absurd h
fine_step Frequency.Daily i h = absurd h
fine_step Frequency.Hourly i h = refl
fine_step Frequency.Minutely i h = refl
fine_step Frequency.Secondly i h = refl

is_fine : (r : Rule) → fine r ≡ true → Fine r.freq
is_fine r e = subst⁻¹ (λ (b : Bool). T b) e tt

pub day_is_number : DayIsNumber
unfolding period counter_at
day_is_number r k e =
    rw (fine_step r.freq r.interval (is_fine r e)) (day_after r.wkst (second r.start) (k * r.interval) r.freq (is_fine r e))

pub place_is_tick : PlaceIsTick
unfolding period counter_at
place_is_tick r k e =
    rw (fine_step r.freq r.interval (is_fine r e)) (place_after r.wkst (second r.start) (k * r.interval) r.freq (is_fine r e))

-- the same by frequency
place_in : (r : Rule) (k : ℕ) (f : Frequency) → r.freq ≡ f → is_below Frequency.Daily f ≡ true
    → (period r k).begins % 86400 ≡ (counter_at r k).tick * (86400 / ticks f)
place_in r k f e h = place_is_tick r k (ap (is_below Frequency.Daily) e ∙ h) ∙ ap (λ (f : Frequency). (counter_at r k).tick * (86400 / ticks f)) e

hourly_place : (r : Rule) (k : ℕ) → r.freq ≡ Frequency.Hourly → (period r k).begins % 86400 ≡ (counter_at r k).tick * 3600
hourly_place r k e = place_in r k Frequency.Hourly e refl

minutely_place : (r : Rule) (k : ℕ) → r.freq ≡ Frequency.Minutely → (period r k).begins % 86400 ≡ (counter_at r k).tick * 60
minutely_place r k e = place_in r k Frequency.Minutely e refl

secondly_place : (r : Rule) (k : ℕ) → r.freq ≡ Frequency.Secondly → (period r k).begins % 86400 ≡ (counter_at r k).tick * 1
secondly_place r k e = place_in r k Frequency.Secondly e refl

pub hourly_hour : HourlyHour
hourly_hour r k e = omega (arith, hourly_place r k e)

pub minutely_hour : MinutelyHour
minutely_hour r k e = omega (arith, minutely_place r k e)

pub minutely_minute : MinutelyMinute
minutely_minute r k e = omega (arith, minutely_place r k e)

pub secondly_hour : SecondlyHour
secondly_hour r k e = omega (arith, secondly_place r k e)

pub secondly_minute : SecondlyMinute
secondly_minute r k e = omega (arith, secondly_place r k e)

pub secondly_second : SecondlySecond
secondly_second r k e = omega (arith, secondly_place r k e)
