-- Years: one follows the other by the leap rule, each day lies in one, and 400 of them are whole weeks.
-- Assumes nothing.
use Rattle.std.specs.Prelude.{if◌then◌else◌}
use mathlib.Core.Path.{◌≡◌, refl, subst}
use mathlib.Core.Bool.{Bool, true, false, not, ◌&&◌, ◌||◌}
use Prim.Native.Nat.{ℕ, zero, suc, ◌+◌, ◌-◌, ◌*◌, ◌/◌, ◌%◌, ◌≤◌, ◌<◌}
use native.Mathlib.Omega.{arith}
use native.Mathlib.Nat.{add-zero, add-suc, le_refl, le_antisymm, add-sub_of_le, add-sub_cancel}
use native.Mathlib.Decide.{dec_lt}
use native.Mathlib.Numerals.{add-one}
use lib.Dec.{eqb, ltb}
use borrow.Author.Tests.{eqb-true, eqb-false, ltb-true, ltb-false}
use Rattle.calendar.specs.Calendar.{leap, days_of, year_length, days_of_years, new_year, year_from, year_of, year_day}
use Rattle.calendar.specs.Claims.{NewYearIs, YearsFollow, InYear, YearOfIs, OneYear, PlaceIs, OnePlace, FourCenturies, LeapYearsComeRound, WeekdaysComeRound}

-- a ≢ would cost omega a case split each, and it has six
above_zero : (a : ℕ) → eqb a 0 ≡ false → 0 < a
above_zero a p = omega (arith, eqb-false a 0 p)

abbrev one_if : Bool → ℕ
one_if b = if b then 1 else 0

-- each quotient's step, by omega with one divisor in reach at a time
step_4 : (y : ℕ) (b : Bool) → 1 ≤ y → eqb (y % 4) 0 ≡ b → y / 4 ≡ (y - 1) / 4 + one_if b
step_4 y true h p = omega (arith, eqb-true)
step_4 y false h p = omega (arith, above_zero)

step_100 : (y : ℕ) (b : Bool) → 1 ≤ y → eqb (y % 100) 0 ≡ b → y / 100 ≡ (y - 1) / 100 + one_if b
step_100 y true h p = omega (arith, eqb-true)
step_100 y false h p = omega (arith, above_zero)

step_400 : (y : ℕ) (b : Bool) → 1 ≤ y → eqb (y % 400) 0 ≡ b → y / 400 ≡ (y - 1) / 400 + one_if b
step_400 y true h p = omega (arith, eqb-true)
step_400 y false h p = omega (arith, above_zero)

-- a year's length by the three tests, of which the second implies the first and the third the second
length_by_tests : (y : ℕ) (a b c : Bool) → eqb (y % 4) 0 ≡ a → eqb (y % 100) 0 ≡ b → eqb (y % 400) 0 ≡ c
    → 365 + one_if a + one_if c ≡ days_of (a && (not b || c)) + one_if b
length_by_tests y true true true p q r = refl
length_by_tests y true true false p q r = refl
length_by_tests y true false true p q r = omega (arith, eqb-true, above_zero)
length_by_tests y true false false p q r = refl
length_by_tests y false true true p q r = omega (arith, eqb-true, above_zero)
length_by_tests y false true false p q r = omega (arith, eqb-true, above_zero)
length_by_tests y false false true p q r = omega (arith, eqb-true, above_zero)
length_by_tests y false false false p q r = refl

-- over numbers alone: omega gets no quotient
add_up : (y a b c i j k l : ℕ) → 1 ≤ y → b ≤ a → j ≤ 1 → 365 + i + k ≡ l + j
    → 365 * y + (a + i) - (b + j) + (c + k) ≡ 365 * (y - 1) + a - b + c + l
add_up y a b c i j k l h m n e = omega arith

at_most_one : (b : Bool) → one_if b ≤ 1
at_most_one true = omega arith
at_most_one false = omega arith

pub years_follow : YearsFollow
unfolding new_year leap
years_follow y h =
    rw (add-sub_cancel y 1, step_4 y _ h refl, step_100 y _ h refl, step_400 y _ h refl)
    (add_up y _ _ _ _ _ _ _ h (omega arith) (at_most_one (eqb (y % 100) 0)) (length_by_tests y _ _ _ refl refl refl))

first_new_year : new_year 1 ≡ 0
unfolding new_year
first_new_year = refl

pub new_year_is : NewYearIs
unfolding days_of_years
new_year_is zero = first_new_year
new_year_is (suc n) = rw (← new_year_is n, add-one n) (years_follow (suc n) (omega arith))

shortest : (b : Bool) → 365 ≤ days_of b
shortest true = omega arith
shortest false = omega arith

pub years_grow : (y : ℕ) → 1 ≤ y → new_year y + 365 ≤ new_year (y + 1)
years_grow y h = omega (arith, shortest (leap y), years_follow y h)

rise_by : (y k : ℕ) → 1 ≤ y → new_year y ≤ new_year (y + k)
rise_by y zero h = rw add-zero (le_refl _)
rise_by y (suc k) h = rw (add-suc, ← add-one (y + k)) (omega (arith, rise_by y k h, years_grow (y + k) (omega arith)))

pub years_rise : (y z : ℕ) → 1 ≤ y → y ≤ z → new_year y ≤ new_year z
years_rise y z h k = subst (λ (x : ℕ). new_year y ≤ new_year x) (add-sub_of_le k) (rise_by y (z - y) h)

le_of_not_lt : (a b : ℕ) → (b < a → ⊥) → a ≤ b
le_of_not_lt a b f = go (dec_lt b a)
  where
    go : Dec (b < a) → a ≤ b
    go (yes l) = absurd (f l)
    go (no g) = omega arith

-- no year comes after another that holds the same day
not_after : (d y z : ℕ) → InYear y d → InYear z d → y ≤ z
not_after d y z a b = le_of_not_lt y z (λ l. omega (arith, years_rise (z + 1) y (omega arith) (omega arith)))

pub same_year : (d y z : ℕ) → InYear y d → InYear z d → y ≡ z
same_year d y z a b = le_antisymm (not_after d y z a b) (not_after d z y b a)

-- The search from a year that begins by d, with so many years to go that d is passed, finds the year of d.
found : (n y d : ℕ) → 1 ≤ y → new_year y ≤ d → d < new_year (y + n + 1) → InYear (year_from n y d) d
unfolding year_from
found zero y d h p q = record { low = h; from = p; to = subst (λ (x : ℕ). d < new_year x) (let e : y + 0 + 1 ≡ y + 1 = omega arith in e) q }
found (suc n) y d h p q =
    go (ltb d (new_year (y + 1))) refl
    (λ l. found n (y + 1) d (omega arith) l (subst (λ (x : ℕ). d < new_year x) (let e : y + suc n + 1 ≡ y + 1 + n + 1 = omega arith in e) q))
  where
    go : (b : Bool) → ltb d (new_year (y + 1)) ≡ b → (new_year (y + 1) ≤ d → InYear (year_from n (y + 1) d) d)
        → InYear (elim b [ true ↦ y | false ↦ year_from n (y + 1) d ]) d
    go true e later = record { low = h; from = p; to = ltb-true _ _ e }
    go false e later = later (ltb-false _ _ e)

pub new_year_at_most : (y : ℕ) → new_year y ≤ 366 * y
unfolding new_year
new_year_at_most y = omega arith

-- with a leap year in every four a year begins no earlier
not_later : (z : ℕ) → new_year (z + 1) * 4 ≤ 1461 * z
unfolding new_year
not_later z = rw (add-sub_cancel z 1) (omega arith)

far : (z : ℕ) → z < new_year (z + 2)
unfolding new_year
far z = let e : z + 2 - 1 ≡ z + 1 = omega arith in rw e (omega arith)

reach : (d q : ℕ) → d < new_year (q + 1 + d + 1)
reach d q = let e : d + 2 + q ≡ q + 1 + d + 1 = omega arith in subst (λ (x : ℕ). d < new_year x) e (omega (arith, far d, rise_by (d + 2) q (omega arith)))

pub year_of_is : YearOfIs
unfolding year_of
year_of_is d = found d (4 * d / 1461 + 1) d (omega arith) (omega (arith, not_later (4 * d / 1461))) (reach d (4 * d / 1461))

pub one_year : OneYear
one_year y d h = same_year d (year_of d) y (year_of_is d) h

-- The year z worked out from 146,097 days in 400 years is the year of the day d, or the one before it.
not_too_low : (d z : ℕ) → 400 * (d + 2) < 146097 * (z + 1) → d < new_year (z + 1 + 1)
unfolding new_year
not_too_low d z h = rw (add-sub_cancel (z + 1) 1) (omega arith)

not_too_high : (d z : ℕ) → 1 ≤ z → 146097 * z ≤ 400 * (d + 2) → new_year z ≤ d
unfolding new_year
not_too_high d z l h = omega arith

positive : (d z : ℕ) → d < new_year (z + 1) → 1 ≤ z
positive d zero h = omega (arith, first_new_year)
positive d (suc z) h = omega arith

pub year_above : (d z : ℕ) → 400 * (d + 2) < 146097 * (z + 1) → new_year (z + 1) ≤ d → year_of d ≡ z + 1
year_above d z h p = one_year (z + 1) d (record { low = omega arith; from = p; to = not_too_low d z h })

pub year_at_lem : (d z : ℕ) → 146097 * z ≤ 400 * (d + 2) → d < new_year (z + 1) → year_of d ≡ z
year_at_lem d z h p =
    let l : 1 ≤ z = positive d z p in
    one_year z d (record { low = l; from = not_too_high d z l h; to = p })

pub place_is : PlaceIs
unfolding year_day
place_is d =
    let h = year_of_is d in
    let f : new_year (year_of d + 1) ≡ new_year (year_of d) + year_length (year_of d) = years_follow (year_of d) h.low in
    record { low = h.low; in_year = omega arith; day = omega arith }

pub one_place : OnePlace
unfolding year_day
one_place y d n h =
    let f : new_year (y + 1) ≡ new_year y + year_length y = years_follow y h.low in
    let e : year_of d ≡ y = one_year y d (record { low = h.low; from = omega arith; to = omega arith }) in
    (e, rw e (omega arith))

four_4 : (z : ℕ) → (z + 400) / 4 ≡ z / 4 + 100
four_4 z = omega arith

four_100 : (z : ℕ) → (z + 400) / 100 ≡ z / 100 + 4
four_100 z = omega arith

four_400 : (z : ℕ) → (z + 400) / 400 ≡ z / 400 + 1
four_400 z = omega arith

pub four_centuries : FourCenturies
unfolding new_year
four_centuries y h =
    let e : y + 400 - 1 ≡ y - 1 + 400 = omega arith in
    rw (e, four_4 (y - 1), four_100 (y - 1), four_400 (y - 1)) (grow (y - 1) _ _ _ (omega arith))
  where
    grow : (z a b c : ℕ) → b ≤ a → 365 * (z + 400) + (a + 100) - (b + 4) + (c + 1) ≡ 365 * z + a - b + c + 7 * 20871
    grow z a b c m = omega arith

pub leap_years_come_round : LeapYearsComeRound
unfolding leap
leap_years_come_round y =
    let p : (y + 400) % 4 ≡ y % 4 = omega arith in
    let q : (y + 400) % 100 ≡ y % 100 = omega arith in
    let r : (y + 400) % 400 ≡ y % 400 = omega arith in
    rw (p, q, r)

whole_weeks : (a b : ℕ) → b ≡ a + 7 * 20871 → b % 7 ≡ a % 7
whole_weeks a b e = omega arith

pub weekdays_come_round : WeekdaysComeRound
weekdays_come_round y h = whole_weeks (new_year y) (new_year (y + 400)) (four_centuries y h)
