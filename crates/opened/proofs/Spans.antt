-- The days of a period, in the tables of a year.
-- Assumes nothing.
use Prim.Native.Nat.{ℕ, ◌+◌, ◌-◌, ◌*◌, ◌/◌, ◌%◌, min, ◌≤◌, ◌<◌}
use mathlib.Core.Path.{◌≡◌, refl, sym, ap, subst, ◌∙◌}
use mathlib.Core.Logic.{⊎_elim}
use mathlib.Core.Bool.{Bool, true, false}
use native.Mathlib.Nat.{mod-lt}
use native.Mathlib.Omega.{arith}
use lib.Dec.{leb}
use Rattle.std.proofs.lemmas.Bool.{and_parts}
use borrow.Author.Tests.{lt-ltb, le-leb, lt-leb, leb-true, leb-false, ltb-true}
use Rattle.calendar.specs.Calendar.{leap, days_of, year_length, new_year, year_of, month_length, days_before_month, first_of, date_of}
use Rattle.calendar.specs.Claims.{InYear}
use Rattle.calendar.proofs.Table.{same_below}
use Rattle.calendar.proofs.Years.{years_follow, years_rise, new_year_at_most, year_of_is, same_year}
use Rattle.rule.specs.declared.rrule.Frequency.{Frequency}
use Rattle.rule.specs.declared.rrule.Rule.{Rule}
use Rattle.rule.specs.Instants.{second, range_end, day_of}
use Rattle.rule.specs.Days.{week_of}
use Rattle.rule.specs.Filling.{is_below}
use Rattle.rule.specs.Periods.{month, period_after, period, in_range}
use Rattle.rule.specs.Moves.{fine, ticks}
use Rattle.rule.proofs.Order.{below_or, first, month_next, months_rise, month_in}
use Rattle.stretches.specs.declared.counter_date.Days.{Days}
use Rattle.periods.specs.Counters.{number_of, step_of, counter_at, limit_of}
use Rattle.stretches.specs.Stretches.{days_at}
use Rattle.periods.proofs.Counted.{year_limit, month_limit, in_range_is, place_is_tick}
use Rattle.stretches.proofs.Spanned.{days_below, days_of_period}
use Rattle.weeks.specs.declared.yearinfo.Year.{Year}
use Rattle.weeks.specs.Weeks.{no_year, year_info}
use Rattle.years.specs.Info.{info_of, rule_info}
use Rattle.nths.proofs.Rows.{days_high}
use Rattle.fitting.specs.Fitting.{period_end}
use Rattle.units.specs.Years.{is_in_year}
use Rattle.opening.specs.Opening.{tick_begins}
use Rattle.opened.specs.Opened.{span_of}
use Rattle.opened.proofs.Yielded.{Good}

-- ---- a year and the days in it

-- the year 1970 begins with the first instant
epoch_year : new_year 1970 ≡ 719162
unfolding new_year
epoch_year = refl

-- the first week may begin in the year before
year_before : new_year 1969 ≡ 718797
unfolding new_year
year_before = refl

epoch_month : first 23640 ≡ 719162
unfolding first_of days_before_month new_year
epoch_month = refl

-- the year y, where there is one
abbrev pub year_own : ℕ → Year
year_own y = record { number = y; long = leap y; nextlong = leap (y + 1); first = new_year y }

pub info_year : (r : Rule) (y : ℕ) → y ≤ 9999 → (rule_info r y).year ≡ year_own y
unfolding rule_info info_of year_info
info_year r y h = rw (le-leb y 9999 h)

-- a year's information is of that year, or of none
within : (y : Year) (d : ℕ) → is_in_year y d ≡ true → (y.first ≤ d) × (d < y.first + days_of y.long)
unfolding is_in_year
within y d e = let b = and_parts (leb y.first d) _ e in (leb-true _ _ b.0, ltb-true _ _ b.1)

no_year_lem : (r : Rule) (y : ℕ) → 9999 < y → (rule_info r y).year ≡ no_year
unfolding rule_info info_of year_info
no_year_lem r y h = rw (lt-leb y 9999 h)

-- A year that covers a day from 26 December 1969 on, when the earliest week begins, is one of the calendar, and the day lies in it.
pub record Covers (y d : ℕ) : Type 0 where
  pub low : 3 ≤ y
  pub high : y ≤ 9999
  pub holds : InYear y d

year_covers : (r : Rule) (y d : ℕ) → 719156 ≤ d → y ≤ 9999 → is_in_year (rule_info r y).year d ≡ true → Covers y d
year_covers r y d l h e =
    let w = within (year_own y) d (ap (λ (x : Year). is_in_year x d) (sym (info_year r y h)) ∙ e) in
    let n : 3 ≤ y = omega (arith, days_high (leap y), new_year_at_most y) in
    record { low = n; high = h; holds = record { low = omega arith; from = w.0; to = omega (arith, years_follow y (omega arith)) } }

pub covers_is : (r : Rule) (y d : ℕ) → 719156 ≤ d → is_in_year (rule_info r y).year d ≡ true → Covers y d
covers_is r y d l e = go (leb y 9999) refl
  where
    go : (b : Bool) → leb y 9999 ≡ b → Covers y d
    go true h = year_covers r y d l (leb-true _ _ h) e
    go false h =
        let w = within no_year d (ap (λ (x : Year). is_in_year x d) (sym (no_year_lem r y (leb-false _ _ h))) ∙ e) in
        absurd (omega arith)

pub year_is_covered : (r : Rule) (y d : ℕ) → y ≤ 9999 → InYear y d → is_in_year (rule_info r y).year d ≡ true
unfolding is_in_year
year_is_covered r y d h i =
    let f : new_year (y + 1) ≡ new_year y + year_length y = years_follow y i.low in
    rw (info_year r y h, le-leb (new_year y) d i.from, lt-ltb d (new_year y + year_length y) (omega arith))

-- the year that holds such a day begins with 1969 or later, and by the end of the range
pub year_begins : (y d : ℕ) → 719156 ≤ d → y ≤ 9999 → InYear y d → (718797 ≤ new_year y) × (new_year y ≤ 3652059)
year_begins y d l h i =
    ⊎_elim
    (λ (b : y < 1969). absurd (omega (arith, year_before, years_rise (y + 1) 1969 (omega arith) (omega arith))))
    (λ (b : 1969 ≤ y).
    (omega (arith, year_before, years_rise 1969 y (omega arith) b), omega (arith, year_limit, years_rise y 10000 (omega arith) (omega arith))))
    (below_or y 1969)

pub year_high : (d : ℕ) → d < range_end → year_of d ≤ 9999
year_high d h =
    let p = year_of_is d in
    ⊎_elim
    (λ (l : year_of d < 10000). let q : year_of d ≤ 9999 = omega arith in q)
    (λ (l : 10000 ≤ year_of d). absurd (omega (arith, year_limit, years_rise 10000 (year_of d) (omega arith) l)))
    (below_or (year_of d) 10000)

year_low : (d : ℕ) → 719162 ≤ d → 1970 ≤ year_of d
year_low d h =
    let p = year_of_is d in
    ⊎_elim
    (λ (l : year_of d < 1970). absurd (omega (arith, epoch_year, years_rise (year_of d + 1) 1970 (omega arith) (omega arith))))
    (λ (l : 1970 ≤ year_of d). l)
    (below_or (year_of d) 1970)

month_not_low : (d : ℕ) → 719162 ≤ d → 23640 ≤ month_in d
unfolding date_of
month_not_low d h = omega (arith, year_low d h)

-- ---- the number of a period: not before the start's

abbrev Low : Frequency → ℕ → Type 0
Low Frequency.Yearly n = 1970 ≤ n
Low Frequency.Monthly n = 23640 ≤ n
Low Frequency.Weekly n = 719156 ≤ n
Low Frequency.Daily n = 719162 ≤ n
Low Frequency.Hourly n = 719162 ≤ n
Low Frequency.Minutely n = 719162 ≤ n
Low Frequency.Secondly n = 719162 ≤ n

low_number : (f : Frequency) (wkst s m : ℕ) → 719162 * 86400 ≤ s → Low f ((number_of f wkst s + m) / ticks f)
unfolding number_of
low_number Frequency.Yearly wkst s m h = omega (arith, year_low (day_of s) (omega arith))
low_number Frequency.Monthly wkst s m h = omega (arith, month_not_low (day_of s) (omega arith))
low_number Frequency.Weekly wkst s m h = omega arith
low_number Frequency.Daily wkst s m h = omega arith
low_number Frequency.Hourly wkst s m h = omega arith
low_number Frequency.Minutely wkst s m h = omega arith
low_number Frequency.Secondly wkst s m h = omega arith

-- ---- the days of a period

-- its days, from the year y on: they end no later than a week after that year
pub record Fits (y from to : ℕ) : Type 0 where
  pub some : from < to
  pub high : to ≤ new_year y + (year_length y + 7)

-- a month ends with its year, and has a day
month_ends : (long : Bool) (m : ℕ) → m < 12 → days_before_month long (m + 1) + month_length long (m + 1) ≤ days_of long
unfolding days_before_month month_length
month_ends true m h =
    leb-true _ _ (same_below (λ (m : ℕ). leb (days_before_month true (m + 1) + month_length true (m + 1)) 366) (λ (m : ℕ). true) true 12 refl m h)
month_ends false m h =
    leb-true _ _ (same_below (λ (m : ℕ). leb (days_before_month false (m + 1) + month_length false (m + 1)) 365) (λ (m : ℕ). true) true 12 refl m h)

some_days : (long : Bool) (m : ℕ) → m < 12 → 1 ≤ month_length long (m + 1)
unfolding month_length
some_days true m h = leb-true _ _ (same_below (λ (m : ℕ). leb 1 (month_length true (m + 1))) (λ (m : ℕ). true) true 12 refl m h)
some_days false m h = leb-true _ _ (same_below (λ (m : ℕ). leb 1 (month_length false (m + 1))) (λ (m : ℕ). true) true 12 refl m h)

month_fits : (n y : ℕ) → 12 ≤ n → InYear y (first n) → Fits y (first n) (first (n + 1))
unfolding first_of
month_fits n y h i =
    let e : first n + month_length (leap (n / 12)) (n % 12 + 1) ≡ first (n + 1) = month_next n h in
    let a : days_before_month (leap (n / 12)) (n % 12 + 1) + month_length (leap (n / 12)) (n % 12 + 1) ≤ year_length (n / 12) =
    month_ends (leap (n / 12)) (n % 12) (omega arith) in
    let b : 1 ≤ month_length (leap (n / 12)) (n % 12 + 1) = some_days (leap (n / 12)) (n % 12) (omega arith) in
    let g : new_year (n / 12 + 1) ≡ new_year (n / 12) + year_length (n / 12) = years_follow (n / 12) (omega arith) in
    let z : y ≡ n / 12 = same_year (first n) y (n / 12) i (record { low = omega arith; from = omega arith; to = omega arith }) in
    rw z (record { some = omega arith; high = omega arith })

year_fits : (n y : ℕ) → 1 ≤ n → InYear y (new_year n) → Fits y (new_year n) (new_year (n + 1))
year_fits n y h i =
    let g : new_year (n + 1) ≡ new_year n + year_length n = years_follow n h in
    let o : 0 < year_length n = some (leap n) in
    let z : y ≡ n = same_year (new_year n) y n i (record { low = h; from = omega arith; to = omega arith }) in
    rw z (record { some = omega arith; high = omega arith })
  where
    some : (long : Bool) → 0 < days_of long
    some true = omega arith
    some false = omega arith

short_fits : (y from to : ℕ) → InYear y from → from < to → to ≤ from + 7 → Fits y from to
short_fits y from to i a b = record { some = a; high = omega (arith, years_follow y i.low) }

module _ (n : ℕ) where
  span_fits : (f : Frequency) (y : ℕ) → n < limit_of f → Low f n → InYear y (days_at f n).from → Fits y (days_at f n).from (days_at f n).to
  unfolding days_at limit_of
  span_fits Frequency.Yearly y h l i = year_fits n y (omega arith) i
  span_fits Frequency.Monthly y h l i = month_fits n y (omega arith) i
  span_fits Frequency.Weekly y h l i = short_fits y _ _ i (omega arith) (omega arith)
  span_fits Frequency.Daily y h l i = short_fits y _ _ i (omega arith) (omega arith)
  span_fits Frequency.Hourly y h l i = short_fits y _ _ i (omega arith) (omega arith)
  span_fits Frequency.Minutely y h l i = short_fits y _ _ i (omega arith) (omega arith)
  span_fits Frequency.Secondly y h l i = short_fits y _ _ i (omega arith) (omega arith)

  span_low : (f : Frequency) → Low f n → 719156 ≤ (days_at f n).from
  unfolding days_at
  span_low Frequency.Yearly l = omega (arith, epoch_year, years_rise 1970 n (omega arith) l)
  span_low Frequency.Monthly l = omega (arith, epoch_month, months_rise 23640 n (omega arith) l)
  span_low Frequency.Weekly l = l
  span_low Frequency.Daily l = omega arith
  span_low Frequency.Hourly l = omega arith
  span_low Frequency.Minutely l = omega arith
  span_low Frequency.Secondly l = omega arith

  -- a period in range ends with the range
  to_high : (f : Frequency) → n < limit_of f → Low f n → (days_at f n).to ≤ range_end
  unfolding days_at limit_of
  to_high Frequency.Yearly h l = omega (arith, year_limit, years_rise (n + 1) 10000 (omega arith) (omega arith))
  to_high Frequency.Monthly h l = omega (arith, month_limit, months_rise (n + 1) 120000 (omega arith) (omega arith))
  to_high Frequency.Weekly h l = omega arith
  to_high Frequency.Daily h l = omega arith
  to_high Frequency.Hourly h l = omega arith
  to_high Frequency.Minutely h l = omega arith
  to_high Frequency.Secondly h l = omega arith

-- below DAILY a period lies in one day
one_day : (f : Frequency) (n : ℕ) → is_below Frequency.Daily f ≡ true → (days_at f n).to - (days_at f n).from ≡ 1
unfolding days_at
one_day Frequency.Yearly n h = absurd (let z : ◌≡◌ {A = ℕ} 0 1 = cc in omega arith)
one_day Frequency.Monthly n h = absurd (let z : ◌≡◌ {A = ℕ} 0 1 = cc in omega arith)
one_day Frequency.Weekly n h = absurd (let z : ◌≡◌ {A = ℕ} 0 1 = cc in omega arith)
one_day Frequency.Daily n h = absurd (let z : ◌≡◌ {A = ℕ} 0 1 = cc in omega arith)
one_day Frequency.Hourly n h = omega arith
one_day Frequency.Minutely n h = omega arith
one_day Frequency.Secondly n h = omega arith

-- ---- where a period begins in its day

module _ (wkst s k i : ℕ) where
  coarse_place : (f : Frequency) → is_below Frequency.Daily f ≡ false
      → (period_after f wkst s (k * i)).begins % 86400 ≡ tick_begins f ((number_of f wkst s + k * step_of f i) % ticks f)
  unfolding period_after month
  coarse_place Frequency.Yearly h = omega arith
  coarse_place Frequency.Monthly h = omega arith
  coarse_place Frequency.Weekly h = omega arith
  coarse_place Frequency.Daily h = omega arith
  coarse_place Frequency.Hourly h = absurd (let z : ◌≡◌ {A = ℕ} 0 1 = cc in omega arith)
  coarse_place Frequency.Minutely h = absurd (let z : ◌≡◌ {A = ℕ} 0 1 = cc in omega arith)
  coarse_place Frequency.Secondly h = absurd (let z : ◌≡◌ {A = ℕ} 0 1 = cc in omega arith)

some_ticks : (f : Frequency) → 0 < ticks f
some_ticks Frequency.Yearly = omega arith
some_ticks Frequency.Monthly = omega arith
some_ticks Frequency.Weekly = omega arith
some_ticks Frequency.Daily = omega arith
some_ticks Frequency.Hourly = omega arith
some_ticks Frequency.Minutely = omega arith
some_ticks Frequency.Secondly = omega arith

-- ---- where a period ends: with its last day, or with its tick

whole_days : (b n : ℕ) → 1 ≤ (b * 86400 + 86399) / 86400 → b * 86400 ≡ ((b * 86400 + 86399) / 86400 - 1) * 86400 + (n % 1 + 1) * 86400
whole_days b n h = omega arith

module _ (wkst s k i : ℕ) where
  end_after : (f : Frequency) → 1 ≤ ((period_after f wkst s (k * i)).ends + 86399) / 86400
      → (period_after f wkst s (k * i)).ends
      ≡ period_end f (((period_after f wkst s (k * i)).ends + 86399) / 86400) ((number_of f wkst s + k * step_of f i) % ticks f)
  unfolding period_after month number_of step_of
  end_after Frequency.Yearly h = whole_days (new_year (year_of (day_of s) + k * i + 1)) _ h
  end_after Frequency.Monthly h = whole_days (first (month_in (day_of s) + k * i + 1)) _ h
  end_after Frequency.Weekly h = whole_days (min (week_of wkst (day_of s) + 7 * (k * i) + 7) range_end) _ h
  end_after Frequency.Daily h = whole_days (s / 86400 + k * i + 1) _ h
  end_after Frequency.Hourly h = omega arith
  end_after Frequency.Minutely h = omega arith
  end_after Frequency.Secondly h = omega arith

-- ---- the same of period k of a rule

module _ (r : Rule) (k : ℕ) where
  pub tick_below : (counter_at r k).tick < ticks r.freq
  unfolding counter_at
  tick_below = mod-lt _ (some_ticks r.freq)

  coarse : fine r ≡ false → (period r k).begins % 86400 ≡ tick_begins r.freq (counter_at r k).tick
  unfolding period counter_at
  coarse e = coarse_place r.wkst (second r.start) k r.interval r.freq e

  pub begins_place : (period r k).begins % 86400 ≡ tick_begins r.freq (counter_at r k).tick
  begins_place = go (fine r) refl
    where
      go : (b : Bool) → fine r ≡ b → (period r k).begins % 86400 ≡ tick_begins r.freq (counter_at r k).tick
      go true e = place_is_tick r k e
      go false e = coarse e

begins_below : (r : Rule) (k : ℕ) → in_range r k ≡ true → (period r k).begins < range_end * 86400
unfolding in_range
begins_below r k e = ltb-true _ _ e

ends_by : (r : Rule) (k : ℕ) → 1 ≤ ((period r k).ends + 86399) / 86400
    → (period r k).ends ≡ period_end r.freq (((period r k).ends + 86399) / 86400) (counter_at r k).tick
unfolding period counter_at
ends_by r k h = end_after r.wkst (second r.start) k r.interval r.freq h

module _ (r : Rule) (fit : Good r) (k : ℕ) (inside : in_range r k ≡ true) where
  abbrev number : ℕ
  number = (counter_at r k).number

  number_low : Low r.freq number
  unfolding counter_at
  number_low = low_number r.freq r.wkst (second r.start) _ (omega arith)

  number_in : number < limit_of r.freq
  number_in = ltb-true _ _ (sym (in_range_is r k) ∙ inside)

  span_is : span_of r k ≡ days_at r.freq number
  span_is = sym (days_below r.freq number number_in)

  -- the days that are told of the period are its own
  pub span_of_period : span_of r k ≡ record { from = day_of (period r k).begins; to = ((period r k).ends + 86399) / 86400 }
  span_of_period = days_of_period r k inside

  pub span_from_low : 719156 ≤ (span_of r k).from
  span_from_low = rw span_is (span_low number r.freq number_low)

  pub span_in_year : (y : ℕ) → InYear y (span_of r k).from → Fits y (span_of r k).from (span_of r k).to
  span_in_year y i =
      rw span_is (span_fits number r.freq y number_in number_low (subst (λ (s : Days). InYear y s.from) span_is i))

  pub span_order : (span_of r k).from < (span_of r k).to
  span_order = (span_in_year (year_of (span_of r k).from) (year_of_is (span_of r k).from)).some

  pub span_of_a_day : fine r ≡ true → (span_of r k).to - (span_of r k).from ≡ 1
  span_of_a_day e = rw span_is (one_day r.freq number e)

  pub span_from_high : (span_of r k).from < range_end
  span_from_high = rw span_of_period (omega (arith, begins_below r k inside))

  -- The year of the period's first day covers it, so that the period can be opened in that year.
  pub own_year : is_in_year (rule_info r (year_of (span_of r k).from)).year (span_of r k).from ≡ true
  own_year = year_is_covered r (year_of (span_of r k).from) (span_of r k).from (year_high (span_of r k).from span_from_high) (year_of_is (span_of r k).from)

  -- The period ends as its last day and its tick say.
  pub ends_are : (period r k).ends ≡ period_end r.freq (span_of r k).to (counter_at r k).tick
  ends_are =
      let t : (span_of r k).to ≡ ((period r k).ends + 86399) / 86400 = ap (λ (d : Days). d.to) span_of_period in
      ends_by r k (omega (arith, span_order)) ∙ ap (λ (x : ℕ). period_end r.freq x (counter_at r k).tick) (sym t)

  pub span_to_high : (span_of r k).to ≤ range_end
  span_to_high = rw span_is (to_high number r.freq number_in number_low)
