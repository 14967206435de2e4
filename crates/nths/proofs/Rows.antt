-- The rows of the year tables, and the days of the year beside them.
-- Assumes nothing.
use Prim.Native.Nat.{ℕ, ◌+◌, ◌-◌, ◌%◌, ◌≤◌, ◌<◌}
use mathlib.Core.Path.{◌≡◌}
use mathlib.Core.Bool.{Bool, true, false, not}
use lib.Dec.{ltb, leb}
use native.Mathlib.Omega.{arith}
use native.Mathlib.Nat.{mod-lt}
use native.Mathlib.Decide.{dec_le, dec_lt}
use borrow.Author.Tests.{lt-ltb, le-ltb, le-leb, lt-leb}
use Rattle.calendar.specs.Calendar.{days_of, MonthDay, month_day_of, table_day}
use Rattle.calendar.proofs.Months.{at_most_31, month_day_is}
use Rattle.nths.specs.Masks.{year_day_at, year_length_at}

-- a row that there is
pub record Row (p : MonthDay) : Type 0 where
  pub month_low : 1 ≤ p.month
  pub month_high : p.month ≤ 12
  pub day_low : 1 ≤ p.day
  pub day_high : p.day ≤ p.length
  pub length_high : p.length ≤ 31

some_days : (long : Bool) → 0 < days_of long
some_days true = omega arith
some_days false = omega arith

pub row : (long : Bool) (i : ℕ) → i < days_of long + 7 → Row (table_day long i)
unfolding table_day
row long i h =
    let g = month_day_is long (i % days_of long) (mod-lt i (some_days long)) in
    rw (lt-ltb i (days_of long + 7) h, table_day) (record {
      month_low = g.month_low;
      month_high = g.month_high;
      day_low = g.day_low;
      day_high = g.day_high;
      length_high = omega (arith, at_most_31 long (month_day_of long (i % days_of long)).month g.month_high, g.length_is);
    })

-- a year has 365 or 366 days
pub days_low : (long : Bool) → 365 ≤ days_of long
days_low true = omega arith
days_low false = omega arith

pub days_high : (long : Bool) → days_of long ≤ 366
days_high true = omega arith
days_high false = omega arith

-- a place lies in the tables, or past them
pub not_below : (a b : ℕ) → leb a b ≡ not (ltb b a)
not_below a b = go (dec_le a b)
  where
    go : Dec (a ≤ b) → leb a b ≡ not (ltb b a)
    go (yes h) = rw (le-leb a b h, le-ltb b a h)
    go (no h) = rw (lt-ltb b a (omega arith), lt-leb a b (omega arith))

-- the day of the year, in the year and past its end
pub this_year : (long : Bool) (i : ℕ) → i < days_of long → year_day_at long i ≡ i + 1
unfolding year_day_at
this_year long i h = rw (lt-ltb i (days_of long) h)

pub next_year : (long : Bool) (i : ℕ) → days_of long ≤ i → year_day_at long i ≡ i + 1 - days_of long
unfolding year_day_at
next_year long i h = rw (le-ltb i (days_of long) h)

pub this_length : (long nextlong : Bool) (i : ℕ) → i < days_of long → year_length_at long nextlong i ≡ days_of long
unfolding year_length_at
this_length long nextlong i h = rw (lt-ltb i (days_of long) h)

pub next_length : (long nextlong : Bool) (i : ℕ) → days_of long ≤ i → year_length_at long nextlong i ≡ days_of nextlong
unfolding year_length_at
next_length long nextlong i h = rw (le-ltb i (days_of long) h)

-- a day of a year, from 1 up to the year's length
pub record YearDay (p n : ℕ) : Type 0 where
  pub low : 1 ≤ p
  pub high : p ≤ n
  pub length_high : n ≤ 366

pub year_day_lem : (long nextlong : Bool) (i : ℕ) → i < days_of long + 7 → YearDay (year_day_at long i) (year_length_at long nextlong i)
year_day_lem long nextlong i h = go (dec_lt i (days_of long))
  where
    go : Dec (i < days_of long) → YearDay (year_day_at long i) (year_length_at long nextlong i)
    go (yes l) = rw (this_year long i l, this_length long nextlong i l) (record { low = omega arith; high = omega arith; length_high = days_high long })
    go (no l) =
        let g : days_of long ≤ i = omega arith in
        rw (next_year long i g, next_length long nextlong i g)
        (record { low = omega arith; high = omega (arith, days_low nextlong); length_high = days_high nextlong })
