-- `moments::date_at` meets its contract.
-- Assumes nothing.
use Prim.Native.Nat.{ℕ, ◌≤◌}
use native.Mathlib.Omega.{arith}
use mathlib.Core.Path.{◌≡◌, refl, ap, ◌∙◌}
use mathlib.Core.Bool.{Bool}
use Rattle.std.proofs.Common.{rules}
use Rattle.calendar.specs.Calendar.{leap, month_length, day_of_date}
use Rattle.calendar.proofs.Months.{at_most_31}
use Rattle.symbols.specs.Counts.{ten_to}
use Rattle.recur.specs.Reading.{date_at}
use Rattle.recur.proofs.Moments.{some_days}
use Rattle.moments.proofs.FieldLaws.{WholeField, in_range_lem, ends_within, number_in_range, no_first, no_second, no_third, all_three}
use Rattle.moments.proofs.date_at.Goals as goal
use Rattle.moments.proofs.date_at.Goals.{After-month_length-last, In_ok-day, In_ok-month, In_ok-year}

abbrev highest : ℕ → ℕ → ℕ
highest y m = month_length (leap y) m

pub returns-in_err-year : goal.returns-in_err-year
unfolding date_at
returns-in_err-year c =
    let stopped = no_first 4 1970 9999 1 12 1 highest 84 day_of_date _ _ _ c.in_err-year.ensures in
    search (rules, stopped)

-- the year is whole
year : (c : In_ok-year) → (let a = c.args in WholeField 4 1970 9999 a.text.now a.at c.in_ok-year.year)
unfolding ten_to
year c = record { is = c.in_ok-year.ensures; some = omega arith; fits = omega arith; within = c.requires }

pub field_at-requires-2 : goal.field_at-requires-2
field_at-requires-2 c = omega (arith, ends_within (year c))

pub returns-in_err-month : goal.returns-in_err-month
unfolding date_at
returns-in_err-month c =
    let stopped = no_second 4 1970 9999 1 12 1 highest 84 day_of_date _ _ _ (year (goal.at.returns-in_err-month c).In_ok-year) _ c.in_err-month.ensures in
    search (rules, stopped)

-- the month is whole
month : (c : In_ok-month) → WholeField 4 1970 9999 c.args.text.now c.args.at c.in_ok-year.year → WholeField 2 1 12 c.args.text.now c.in_ok-year.year.place c.in_ok-month.month
unfolding ten_to
month c y = record { is = c.in_ok-month.ensures; some = omega arith; fits = omega arith; within = ends_within y }

pub overflow_cast-year : goal.overflow_cast-year
overflow_cast-year c = omega (arith, in_range_lem (year (goal.at.overflow_cast-year c).In_ok-year))

pub month_length-last-requires : goal.month_length-last-requires
month_length-last-requires c =
    let here = goal.at.month_length-last-requires c in
    in_range_lem (month here.In_ok-month (year here.In_ok-year))

-- the month's length in that year
length_is : (c : After-month_length-last) → c.month_length-last.result ≡ month_length (leap c.in_ok-year.year.value) c.in_ok-month.month.value
length_is c = c.month_length-last.ensures ∙ ap (λ (b : Bool). month_length b c.in_ok-month.month.value) c.is_leap_year.ensures

length_in : (c : After-month_length-last) → (1 ≤ c.in_ok-month.month.value) × (c.in_ok-month.month.value ≤ 12)
    → (1 ≤ c.month_length-last.result) × (c.month_length-last.result ≤ 31)
length_in c r =
    let long = leap c.in_ok-year.year.value in
    let v = c.in_ok-month.month.value in
    (omega (arith, length_is c, some_days long v r.0 r.1), omega (arith, length_is c, at_most_31 long v r.1))

pub lettered_at-requires : goal.lettered_at-requires
lettered_at-requires c =
    let here = goal.at.lettered_at-requires c in
    let m = month here.In_ok-month (year here.In_ok-year) in
    omega (arith, ends_within m, length_in here.After-month_length-last (in_range_lem m))

pub returns-in_err-day : goal.returns-in_err-day
unfolding date_at
returns-in_err-day c =
    let here = goal.at.returns-in_err-day c in
    let y = year here.In_ok-year in
    let stopped = no_third 4 1970 9999 1 12 1 highest 84 day_of_date _ _ _ y _ (month here.In_ok-month y) _ _ (length_is here.After-month_length-last) refl _ c.in_err-day.ensures in
    search (rules, stopped)

-- the day is whole
days : (c : In_ok-day) → (1 ≤ c.month_length-last.result) × (c.month_length-last.result ≤ 31) → c.in_ok-day.day.value ≤ 31
unfolding ten_to
days c l = omega (arith, number_in_range 1 _ _ _ _ _ c.in_ok-day.ensures l.0 (omega arith))

pub overflow_cast-year-2 : goal.overflow_cast-year-2
overflow_cast-year-2 c = omega (arith, in_range_lem (year (goal.at.overflow_cast-year-2 c).In_ok-year))

pub overflow_cast-month : goal.overflow_cast-month
overflow_cast-month c =
    let here = goal.at.overflow_cast-month c in
    omega (arith, in_range_lem (month here.In_ok-month (year here.In_ok-year)))

pub overflow_cast-day : goal.overflow_cast-day
overflow_cast-day c =
    let here = goal.at.overflow_cast-day c in
    omega (arith, days here.In_ok-day (length_in here.After-month_length-last (in_range_lem (month here.In_ok-month (year here.In_ok-year)))))

pub returns : goal.returns
unfolding date_at
returns c =
    let here = goal.at.returns c in
    let y = year here.In_ok-year in
    all_three 4 1970 9999 1 12 1 highest 84 day_of_date _ _ _ y _ (month here.In_ok-month y) _ _ (length_is here.After-month_length-last) refl _ c.in_ok-day.ensures
    _ c.day_of_date.ensures
