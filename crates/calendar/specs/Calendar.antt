-- The proleptic Gregorian calendar, from its rules. A day is a number of days since 0001-01-01, a Monday.
-- Assumes nothing.
use Rattle.std.specs.Prelude.{if◌then◌else◌, ℕ, zero, suc, ◌+◌, ◌-◌, ◌*◌, ◌/◌, ◌%◌, Bool, true, false, not, ◌&&◌, ◌||◌, List, [], ◌∷◌, take, get_or, eqb, ltb}
use Rattle.calendar.specs.declared.utils.Date.{Date}

-- every fourth year is a leap year, but of the hundreds only every fourth
unfoldable pub leap : ℕ → Bool
leap y = eqb (y % 4) 0 && (not (eqb (y % 100) 0) || eqb (y % 400) 0)

-- the days of a leap year, and of a common one
abbrev pub days_of : Bool → ℕ
days_of long = if long then 366 else 365

abbrev pub year_length : ℕ → ℕ
year_length y = days_of (leap y)

-- 1 January of the year y, in words: the years 1 to n have so many days, added up
unfoldable pub days_of_years : ℕ → ℕ
days_of_years zero = 0
days_of_years (suc n) = days_of_years n + year_length (suc n)

-- The same, computed (Claims, NewYearIs): 365 days for each year before y, and one for each leap year among them.
unfoldable pub new_year : ℕ → ℕ
new_year y = 365 * (y - 1) + (y - 1) / 4 - (y - 1) / 100 + (y - 1) / 400

-- The year of the day d is the first from y on that ends after it; at most n years are passed over.
unfoldable pub year_from : ℕ → ℕ → ℕ → ℕ
year_from zero y d = y
year_from (suc n) y d = elim (ltb d (new_year (y + 1))) [ true ↦ y | false ↦ year_from n (y + 1) d ]

-- With a leap year in every four (1461 days) it would be the year 4 * d / 1461 + 1; it is that one or a later.
unfoldable pub year_of : ℕ → ℕ
unfolding year_from
year_of d = year_from d (4 * d / 1461 + 1) d

abbrev pub month_lengths : Bool → List ℕ
month_lengths long = 31 ∷ (if long then 29 else 28) ∷ 31 ∷ 30 ∷ 31 ∷ 30 ∷ 31 ∷ 31 ∷ 30 ∷ 31 ∷ 30 ∷ 31 ∷ []

-- the length of the month m, 1 to 12, and 0 where there is no such month
unfoldable pub month_length : Bool → ℕ → ℕ
month_length long m = get_or (0 ∷ month_lengths long) m 0

unfoldable pub total : List ℕ → ℕ
total [] = 0
total (x ∷ xs) = x + total xs

-- the days of the year before the month m
unfoldable pub days_before_month : Bool → ℕ → ℕ
unfolding total
days_before_month long m = total (take (m - 1) (month_lengths long))

-- the first day of the month m of the year y
unfoldable pub first_of : ℕ → ℕ → ℕ
first_of y m = new_year y + days_before_month (leap y) m

-- the day of a date: year, month and day of the month count from 1
unfoldable pub day_of_date : ℕ → ℕ → ℕ → ℕ
day_of_date y m d = first_of y m + (d - 1)

-- a day in its year: its month, its day of the month, and the month's length
pub record MonthDay : Type 0 where
  pub month : ℕ
  pub day : ℕ
  pub length : ℕ

abbrev pub no_day : MonthDay
no_day = record { month = 0; day = 0; length = 0 }

-- the day n, counted from 0, of the months from m on, which have these lengths
unfoldable pub month_day_from : List ℕ → ℕ → ℕ → MonthDay
month_day_from [] m n = no_day
month_day_from (l ∷ ls) m n = elim (ltb n l) [ true ↦ record { month = m; day = n + 1; length = l } | false ↦ month_day_from ls (m + 1) (n - l) ]

-- the day n, counted from 0, of a leap year or a common one
unfoldable pub month_day_of : Bool → ℕ → MonthDay
unfolding month_day_from
month_day_of long n = month_day_from (month_lengths long) 1 n

-- the day of the month from the month's end: 1 is the last
abbrev pub from_end : MonthDay → ℕ
from_end p = p.length - (p.day - 1)

-- The year tables go through the year and on through the first seven days of the next January; past them there is no day.
unfoldable pub table_day : Bool → ℕ → MonthDay
unfolding month_day_of
table_day long n = elim (ltb n (days_of long + 7)) [ true ↦ month_day_of long (n % days_of long) | false ↦ no_day ]

-- what a function says at n places from i on
abbrev pub tab : {A : Type 0} → (ℕ → A) → ℕ → ℕ → List A
tab f i zero = []
tab f i (suc n) = f i ∷ tab f (suc i) n

-- A year's table of one number of each day, in 373 places: the last of a common year's has no day.
unfoldable pub year_table : (MonthDay → ℕ) → Bool → List ℕ
unfolding table_day
year_table number long = tab (λ n. number (table_day long n)) 0 373

-- of the month, of its day, and of its day from the month's end
abbrev pub month_table : Bool → List ℕ
month_table long = year_table (λ p. p.month) long

abbrev pub month_day_table : Bool → List ℕ
month_day_table long = year_table (λ p. p.day) long

abbrev pub from_end_table : Bool → List ℕ
from_end_table long = year_table from_end long

abbrev pub date_in : ℕ → MonthDay → Date
date_in y p = record { year = y; month = p.month; day = p.day; length = p.length }

-- the day's place in its year, counted from 0
unfoldable pub year_day : ℕ → ℕ
unfolding year_of
year_day d = d - new_year (year_of d)

-- the date of a day
unfoldable pub date_of : ℕ → Date
unfolding year_day month_day_of
date_of d = date_in (year_of d) (month_day_of (leap (year_of d)) (year_day d))

-- Monday is 0
abbrev pub weekday : ℕ → ℕ
weekday d = d % 7
