-- Periods: all of period j lies before all of period k where j is below k; period 0 holds the start; there are no gaps.
-- Assumes nothing.
use Prim.Native.Nat.{ℕ, zero, suc, ◌+◌, ◌-◌, ◌*◌, ◌/◌, ◌%◌, ◌≤◌, ◌<◌}
use mathlib.Core.Path.{◌≡◌, sym, ◌∙◌, ap, subst}
use mathlib.Core.Logic.{◌⊎◌, inl, inr, ⊎_elim}
use native.Mathlib.Nat.{add-mul, mul-le-mul_right}
use native.Mathlib.Numerals.{add-one}
use native.Mathlib.Decide.{dec_lt}
use native.Mathlib.Omega.{arith}
use borrow.Author.Tests.{ltb-true}
use Rattle.calendar.specs.Calendar.{leap, new_year, month_length, days_before_month, first_of, day_of_date, year_of, date_of}
use Rattle.calendar.proofs.Years.{years_rise, year_of_is}
use Rattle.calendar.proofs.Months.{months_follow, december_ends}
use Rattle.calendar.proofs.Dates.{date_is, day_of_its_date}
use Rattle.rule.specs.declared.rrule.Frequency.{Frequency}
use Rattle.rule.specs.Instants.{second, range_end, day_of}
use Rattle.rule.specs.Days.{week_of}
use Rattle.rule.specs.Periods.{month, period_after, period, in_range}
use Rattle.rule.specs.Meaning.{PeriodsInOrder, StartInPeriod, WholeWeek, PeriodsMeet, Within, PeriodHolds, OnePeriod}

pub below_or : (a b : ℕ) → (a < b) ⊎ (b ≤ a)
below_or a b = go (dec_lt a b)
  where
    go : Dec (a < b) → (a < b) ⊎ (b ≤ a)
    go (yes h) = inl h
    go (no f) = inr (omega arith)

-- months, numbered through
abbrev pub first : ℕ → ℕ
first n = first_of (n / 12) (n % 12 + 1)

january : (y : ℕ) → first_of y 1 ≡ new_year y
unfolding first_of days_before_month
january y = omega arith

-- the first day of the month after
pub month_next : (n : ℕ) → 12 ≤ n → first n + month_length (leap (n / 12)) (n % 12 + 1) ≡ first (n + 1)
month_next n h =
    ⊎_elim
    (λ (l : n % 12 < 11).
    let a : (n + 1) / 12 ≡ n / 12 = omega arith in
    let b : (n + 1) % 12 ≡ n % 12 + 1 = omega arith in
    rw (a, b) (sym (months_follow (n / 12) (n % 12 + 1) (omega arith) (omega arith))))
    (λ (l : 11 ≤ n % 12).
    let a : (n + 1) / 12 ≡ n / 12 + 1 = omega arith in
    let b : (n + 1) % 12 ≡ 0 = omega arith in
    let c : n % 12 ≡ 11 = omega arith in
    rw (a, b, c) (sym (months_follow (n / 12) 12 (omega arith) (omega arith)) ∙ december_ends (n / 12) (omega arith) ∙ sym (january (n / 12 + 1))))
    (below_or (n % 12) 11)

month_up : (m n : ℕ) → 12 ≤ n → first n ≤ first (n + m)
month_up zero n h = let e : n ≡ n + 0 = omega arith in subst (λ (x : ℕ). first n ≤ first x) e (omega arith)
month_up (suc m) n h =
    let e : n + 1 + m ≡ n + suc m = omega arith in
    let f : first (n + 1) ≤ first (n + 1 + m) = month_up m (n + 1) (omega arith) in
    subst (λ (x : ℕ). first n ≤ first x) e (omega (arith, month_next n h))

pub months_rise : (n z : ℕ) → 12 ≤ n → n ≤ z → first n ≤ first z
months_rise n z l h = let e : n + (z - n) ≡ z = omega arith in subst (λ (x : ℕ). first n ≤ first x) e (month_up (z - n) n l)

-- the number of the start's month
abbrev pub month_in : ℕ → ℕ
month_in d = 12 * (date_of d).year + ((date_of d).month - 1)

pub month_low : (d : ℕ) → 12 ≤ month_in d
month_low d = omega (arith, (date_is d).year_low)

pub day_times : (a b : ℕ) → a ≤ b → a * 86400 ≤ b * 86400
day_times a b h = omega arith

order : (f : Frequency) (wkst s a b : ℕ) → a < b → (period_after f wkst s a).ends ≤ (period_after f wkst s b).begins
unfolding period_after month
order Frequency.Yearly wkst s a b h =
    day_times _ _ (years_rise (year_of (day_of s) + a + 1) (year_of (day_of s) + b) (omega arith) (omega arith))
order Frequency.Monthly wkst s a b h =
    day_times _ _ (months_rise (month_in (day_of s) + a + 1) (month_in (day_of s) + b) (omega (arith, month_low (day_of s))) (omega arith))
order Frequency.Weekly wkst s a b h = omega arith
order Frequency.Daily wkst s a b h = omega arith
order Frequency.Hourly wkst s a b h = omega arith
order Frequency.Minutely wkst s a b h = omega arith
order Frequency.Secondly wkst s a b h = omega arith

pub periods_in_order : PeriodsInOrder
unfolding period
periods_in_order r one j k h =
    let a : (j + 1) * r.interval ≤ k * r.interval = mul-le-mul_right r.interval (let l : j + 1 ≤ k = omega arith in l) in
    let b : (j + 1) * r.interval ≡ j * r.interval + 1 * r.interval = add-mul j 1 r.interval in
    order r.freq r.wkst (second r.start) (j * r.interval) (k * r.interval) (omega arith)

-- the date of a day lies in its month
in_month : (d : ℕ) → (first (month_in d) ≤ d) × (d < first (month_in d + 1))
unfolding day_of_date
in_month d =
    let h = date_is d in
    let e : first_of (date_of d).year (date_of d).month + ((date_of d).day - 1) ≡ d = day_of_its_date d in
    let y : month_in d / 12 ≡ (date_of d).year = omega arith in
    let m : month_in d % 12 + 1 ≡ (date_of d).month = omega arith in
    let n : first (month_in d) + month_length (leap (month_in d / 12)) (month_in d % 12 + 1) ≡ first (month_in d + 1) = month_next (month_in d) (month_low d) in
    (rw (y, m) (omega arith), rw (← n, y, m) (omega arith))

holds_start : (f : Frequency) (wkst s : ℕ) → wkst ≤ 6 → s < range_end * 86400 → ((period_after f wkst s 0).begins ≤ s) × (s < (period_after f wkst s 0).ends)
unfolding period_after month
holds_start Frequency.Yearly wkst s h k =
    let p = year_of_is (day_of s) in
    let e : year_of (day_of s) + 0 ≡ year_of (day_of s) = omega arith in
    rw e (omega arith, omega arith)
holds_start Frequency.Monthly wkst s h k =
    let p = in_month (day_of s) in
    let e : month_in (day_of s) + 0 ≡ month_in (day_of s) = omega arith in
    rw e (omega arith, omega arith)
holds_start Frequency.Weekly wkst s h k = (omega arith, omega arith)
holds_start Frequency.Daily wkst s h k = (omega arith, omega arith)
holds_start Frequency.Hourly wkst s h k = (omega arith, omega arith)
holds_start Frequency.Minutely wkst s h k = (omega arith, omega arith)
holds_start Frequency.Secondly wkst s h k = (omega arith, omega arith)

pub start_in_period : StartInPeriod
unfolding period
start_in_period r h k = let e : 0 * r.interval ≡ 0 = omega arith in rw e (holds_start r.freq r.wkst (second r.start) h (omega arith))

-- a start lies after the first week of the calendar, so that no week is cut short at its front
pub whole_week : WholeWeek
unfolding period period_after
whole_week r e h k = rw e (omega arith, omega arith, λ l. omega arith)

meet : (f : Frequency) (wkst s n : ℕ) → (period_after f wkst s (suc n)).begins < range_end * 86400 → (period_after f wkst s n).ends ≡ (period_after f wkst s (suc n)).begins
unfolding period_after month
meet Frequency.Yearly wkst s n h = let e : year_of (day_of s) + n + 1 ≡ year_of (day_of s) + suc n = omega arith in rw e
meet Frequency.Monthly wkst s n h = let e : month_in (day_of s) + n + 1 ≡ month_in (day_of s) + suc n = omega arith in rw e
meet Frequency.Weekly wkst s n h = omega arith
meet Frequency.Daily wkst s n h = omega arith
meet Frequency.Hourly wkst s n h = omega arith
meet Frequency.Minutely wkst s n h = omega arith
meet Frequency.Secondly wkst s n h = omega arith

by_one : (k i : ℕ) → i ≡ 1 → k * i ≡ k
by_one k i e = let f : k * 1 ≡ k = omega arith in ap (λ (x : ℕ). k * x) e ∙ f

pub periods_meet : PeriodsMeet
unfolding period in_range
periods_meet r one k h =
    let b : (k + 1) * r.interval ≡ suc k = by_one (k + 1) r.interval one ∙ add-one k in
    let l : (period_after r.freq r.wkst (second r.start) ((k + 1) * r.interval)).begins < range_end * 86400 = ltb-true _ _ h in
    rw (by_one k r.interval one, b) (meet r.freq r.wkst (second r.start) k (rw b at l))

-- every second from the start on lies in a period so many units after the start's
year_after : (s t : ℕ) → s ≤ t → year_of (day_of s) ≤ year_of (day_of t)
year_after s t h =
    let p = year_of_is (day_of s) in
    let q = year_of_is (day_of t) in
    ⊎_elim
    (λ (l : year_of (day_of t) < year_of (day_of s)). absurd (omega (arith, years_rise (year_of (day_of t) + 1) (year_of (day_of s)) (omega arith) (omega arith))))
    (λ (l : year_of (day_of s) ≤ year_of (day_of t)). l)
    (below_or (year_of (day_of t)) (year_of (day_of s)))

month_after : (s t : ℕ) → s ≤ t → month_in (day_of s) ≤ month_in (day_of t)
month_after s t h =
    let p = in_month (day_of s) in
    let q = in_month (day_of t) in
    ⊎_elim
    (λ (l : month_in (day_of t) < month_in (day_of s)).
    absurd (omega (arith, months_rise (month_in (day_of t) + 1) (month_in (day_of s)) (omega (arith, month_low (day_of t))) (omega arith))))
    (λ (l : month_in (day_of s) ≤ month_in (day_of t)). l)
    (below_or (month_in (day_of t)) (month_in (day_of s)))

holds_in : (f : Frequency) (wkst s t : ℕ) → wkst ≤ 6 → s ≤ t → t < range_end * 86400 → (n : ℕ) × Within (period_after f wkst s n) t
unfolding period_after month
holds_in Frequency.Yearly wkst s t w h k =
    let p = year_of_is (day_of t) in
    let e : year_of (day_of s) + (year_of (day_of t) - year_of (day_of s)) ≡ year_of (day_of t) = omega (arith, year_after s t h) in
    (year_of (day_of t) - year_of (day_of s), rw e (omega arith, omega arith))
holds_in Frequency.Monthly wkst s t w h k =
    let p = in_month (day_of t) in
    let e : month_in (day_of s) + (month_in (day_of t) - month_in (day_of s)) ≡ month_in (day_of t) = omega (arith, month_after s t h) in
    (month_in (day_of t) - month_in (day_of s), rw e (omega arith, omega arith))
holds_in Frequency.Weekly wkst s t w h k =
    let n : ℕ = (day_of t - week_of wkst (day_of s)) / 7 in (n, (omega arith, omega arith))
holds_in Frequency.Daily wkst s t w h k = (t / 86400 - s / 86400, (omega arith, omega arith))
holds_in Frequency.Hourly wkst s t w h k = (t / 3600 - s / 3600, (omega arith, omega arith))
holds_in Frequency.Minutely wkst s t w h k = (t / 60 - s / 60, (omega arith, omega arith))
holds_in Frequency.Secondly wkst s t w h k = (t - s, (omega arith, omega arith))

pub period_holds : PeriodHolds
period_holds r w s h k = holds_in r.freq r.wkst (second r.start) s w h k

pub one_period : OnePeriod
one_period r one s j k p q =
    ⊎_elim
    (λ (l : j < k). absurd (omega (arith, p.1, q.0, periods_in_order r one j k l)))
    (λ (l : k ≤ j). ⊎_elim (λ (m : k < j). absurd (omega (arith, p.0, q.1, periods_in_order r one k j m))) (λ (m : j ≤ k). let e : j ≡ k = omega arith in e) (below_or k j))
    (below_or j k)
