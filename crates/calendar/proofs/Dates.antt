-- Dates: a day and its date go back and forth.
-- Assumes nothing.
use Rattle.std.specs.Prelude.{if◌then◌else◌}
use mathlib.Core.Path.{◌≡◌, refl, ◌∙◌, ap}
use mathlib.Core.Bool.{Bool, true, false, ◌&&◌}
use mathlib.Core.List.{[]}
use Prim.Native.Nat.{ℕ, ◌+◌, ◌-◌, ◌≤◌}
use native.Mathlib.Omega.{arith}
use lib.Dec.{leb, ltb}
use borrow.Author.Tests.{le-leb, ltb-true}
use Rattle.calendar.specs.declared.utils.Date.{Date}
use Rattle.calendar.specs.Calendar.{leap, days_of, new_year, year_of, month_length, days_before_month, first_of, day_of_date, MonthDay, no_day}
use Rattle.calendar.specs.Calendar.{month_day_of, tab, date_in, year_day, date_of}
use Rattle.calendar.specs.Claims.{DateIs, DayOfItsDate, DateOfItsDay}
use Rattle.calendar.proofs.Table.{same_below}
use Rattle.calendar.proofs.Years.{place_is, one_place}
use Rattle.calendar.proofs.Months.{month_day_is, at_most_31}

pub date_is : DateIs
unfolding date_of
date_is d =
    let h = place_is d in
    let g = month_day_is (leap (year_of d)) (year_day d) h.in_year in
    record {
      year_low = h.low;
      month_low = g.month_low;
      month_high = g.month_high;
      day_low = g.day_low;
      day_high = g.day_high;
      length_is = g.length_is;
    }

pub day_of_its_date : DayOfItsDate
unfolding date_of day_of_date first_of
day_of_its_date d =
    let h = place_is d in
    let g = month_day_is (leap (year_of d)) (year_day d) h.in_year in
    omega arith

-- there is such a day of such a month
abbrev there : Bool → ℕ → ℕ → Bool
there long m d = leb 1 m && leb 1 d && leb d (month_length long m)

abbrev place_of : Bool → ℕ → ℕ → ℕ
place_of long m d = days_before_month long m + (d - 1)

abbrev is : Bool → ℕ → ℕ → MonthDay
is long m d = record { month = m; day = d; length = month_length long m }

-- both computed at every month and day
abbrev goes_back : Bool → ℕ → ℕ → MonthDay
goes_back long m d = if there long m d then month_day_of long (place_of long m d) else is long m d

abbrev fits : Bool → ℕ → ℕ → Bool
fits long m d = if there long m d then ltb (place_of long m d) (days_of long) else true

-- two functions of a month and a day with one table
same_at : {A : Type 0} (f g : ℕ → ℕ → A) (a : A) → tab (λ (m : ℕ). tab (f m) 0 32) 0 13 ≡ tab (λ (m : ℕ). tab (g m) 0 32) 0 13
    → (m d : ℕ) → m ≤ 12 → d ≤ 31 → f m d ≡ g m d
same_at f g a e m d h k =
    same_below (f m) (g m) a 32
    (same_below (λ (m : ℕ). tab (f m) 0 32) (λ (m : ℕ). tab (g m) 0 32) [] 13 e m (omega arith)) d (omega arith)

all_go_back : (long : Bool) (m d : ℕ) → m ≤ 12 → d ≤ 31 → goes_back long m d ≡ is long m d
unfolding month_day_of month_length days_before_month
all_go_back true = same_at (goes_back true) (is true) no_day refl
all_go_back false = same_at (goes_back false) (is false) no_day refl

all_fit : (long : Bool) (m d : ℕ) → m ≤ 12 → d ≤ 31 → fits long m d ≡ true
unfolding month_length days_before_month
all_fit true = same_at (fits true) (λ (m : ℕ) (d : ℕ). true) true refl
all_fit false = same_at (fits false) (λ (m : ℕ) (d : ℕ). true) true refl

is_there_lem : (long : Bool) (m d : ℕ) → 1 ≤ m → 1 ≤ d → d ≤ month_length long m → there long m d ≡ true
is_there_lem long m d p q r = simp (le-leb _ _ p, le-leb _ _ q, le-leb _ _ r)

-- a day whose year and place in it are known
pub date_at_lem : (d y n : ℕ) → year_of d ≡ y → year_day d ≡ n → date_of d ≡ date_in y (month_day_of (leap y) n)
unfolding date_of
date_at_lem d y n p q =
    ap (λ (y : ℕ). date_in y (month_day_of (leap y) (year_day d))) p ∙ ap (λ (n : ℕ). date_in y (month_day_of (leap y) n)) q

place_of_date : (y m d : ℕ) → new_year y + place_of (leap y) m d ≡ day_of_date y m d
unfolding day_of_date first_of
place_of_date y m d = omega arith

with_length : (x : Date) (l : ℕ) → x.length ≡ l → record { year = x.year; month = x.month; day = x.day; length = l } ≡ x
with_length x l e = rw (← e)

pub date_of_its_day : DateOfItsDay
date_of_its_day x h =
    let long : Bool = leap x.year in
    let n : ℕ = place_of long x.month x.day in
    let short : x.day ≤ 31 = omega (arith, at_most_31 long x.month h.month_high) in
    let t : there long x.month x.day ≡ true = is_there_lem long x.month x.day h.month_low h.day_low (omega arith) in
    let f : ltb n (days_of long) ≡ true = rw t at (all_fit long x.month x.day h.month_high short) in
    let g : month_day_of long n ≡ is long x.month x.day = rw t at (all_go_back long x.month x.day h.month_high short) in
    let p = one_place x.year (day_of_date x.year x.month x.day) n (record { low = h.year_low; in_year = ltb-true _ _ f; day = place_of_date x.year x.month x.day }) in
    date_at_lem _ x.year n p.0 p.1 ∙ ap (date_in x.year) g ∙ with_length x _ h.length_is
