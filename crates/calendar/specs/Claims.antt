-- What is claimed of the calendar's definitions; proofs/ has a proof of each claim, under the same name in small letters.
-- Assumes nothing.
use Rattle.std.specs.Prelude.{ℕ, ◌+◌, ◌*◌, ◌≤◌, ◌<◌, ◌≡◌}
use Rattle.calendar.specs.declared.utils.Date.{Date}
use Rattle.calendar.specs.Calendar.{leap, year_length, days_of_years, new_year, year_of, month_length, first_of, day_of_date, year_day, date_of, weekday}

-- 1 January of the year n + 1 comes after the days of the years 1 to n, each as long as the leap rule says.
abbrev pub NewYearIs : Type 0
NewYearIs = (n : ℕ) → new_year (n + 1) ≡ days_of_years n

-- One year follows the other.
abbrev pub YearsFollow : Type 0
YearsFollow = (y : ℕ) → 1 ≤ y → new_year (y + 1) ≡ new_year y + year_length y

-- The day d lies in the year y.
pub record InYear (y d : ℕ) : Type 0 where
  pub low : 1 ≤ y
  pub from : new_year y ≤ d
  pub to : d < new_year (y + 1)

-- Each day lies in one year, which is year_of, and has one place in it.
abbrev pub YearOfIs : Type 0
YearOfIs = (d : ℕ) → InYear (year_of d) d

abbrev pub OneYear : Type 0
OneYear = (y d : ℕ) → InYear y d → year_of d ≡ y

pub record InPlace (y d n : ℕ) : Type 0 where
  pub low : 1 ≤ y
  pub in_year : n < year_length y
  pub day : new_year y + n ≡ d

abbrev pub PlaceIs : Type 0
PlaceIs = (d : ℕ) → InPlace (year_of d) d (year_day d)

abbrev pub OnePlace : Type 0
OnePlace = (y d n : ℕ) → InPlace y d n → (year_of d ≡ y) × (year_day d ≡ n)

-- A month begins where the one before it ends, and after December comes the next year.
abbrev pub MonthsFollow : Type 0
MonthsFollow = (y m : ℕ) → 1 ≤ m → m ≤ 12 → first_of y (m + 1) ≡ first_of y m + month_length (leap y) m

abbrev pub DecemberEnds : Type 0
DecemberEnds = (y : ℕ) → 1 ≤ y → first_of y 13 ≡ new_year (y + 1)

-- a date that there is
pub record IsDate (x : Date) : Type 0 where
  pub year_low : 1 ≤ x.year
  pub month_low : 1 ≤ x.month
  pub month_high : x.month ≤ 12
  pub day_low : 1 ≤ x.day
  pub day_high : x.day ≤ x.length
  pub length_is : x.length ≡ month_length (leap x.year) x.month

-- A day's date is a date, and its day is the day again; a date's day has that date and no other.
abbrev pub DateIs : Type 0
DateIs = (d : ℕ) → IsDate (date_of d)

abbrev pub DayOfItsDate : Type 0
DayOfItsDate = (d : ℕ) → day_of_date (date_of d).year (date_of d).month (date_of d).day ≡ d

abbrev pub DateOfItsDay : Type 0
DateOfItsDay = (x : Date) → IsDate x → date_of (day_of_date x.year x.month x.day) ≡ x

-- 400 years are 20,871 whole weeks, and leap years come round in them; so do weekdays.
abbrev pub FourCenturies : Type 0
FourCenturies = (y : ℕ) → 1 ≤ y → new_year (y + 400) ≡ new_year y + 7 * 20871

abbrev pub LeapYearsComeRound : Type 0
LeapYearsComeRound = (y : ℕ) → leap (y + 400) ≡ leap y

abbrev pub WeekdaysComeRound : Type 0
WeekdaysComeRound = (y : ℕ) → 1 ≤ y → weekday (new_year (y + 400)) ≡ weekday (new_year y)
