-- Months: what is claimed of a year's days and months, by one computed test each.
-- Assumes nothing.
use mathlib.Core.Path.{◌≡◌, refl}
use mathlib.Core.Bool.{Bool, true, false, ◌&&◌}
use Prim.Native.Nat.{ℕ, ◌+◌, ◌-◌, ◌≤◌, ◌<◌}
use native.Mathlib.Omega.{arith}
use native.Mathlib.Nat.{mod-eq_of_lt}
use mathlib.Core.List.{◌∷◌}
use lib.ListN.{get_or, get_or-eq_default}
use lib.Dec.{eqb, leb}
use borrow.Author.Tests.{eqb-true, leb-true, le-ltb, lt-ltb}
use Rattle.calendar.specs.Calendar.{leap, days_of, month_lengths, month_length, days_before_month, first_of, MonthDay}
use Rattle.calendar.specs.Calendar.{month_day_of, no_day, table_day, year_table}
use Rattle.calendar.specs.Claims.{MonthsFollow, DecemberEnds}
use Rattle.calendar.proofs.Table.{tab_at, same_below}
use Rattle.calendar.proofs.Years.{years_follow}

pub next_month : (long : Bool) (m : ℕ) → m ≤ 12 → days_before_month long (m + 1) ≡ days_before_month long m + month_length long m
unfolding days_before_month month_length
next_month true m h = same_below (λ (m : ℕ). days_before_month true (m + 1)) (λ (m : ℕ). days_before_month true m + month_length true m) 0 13 refl m (omega arith)
next_month false m h = same_below (λ (m : ℕ). days_before_month false (m + 1)) (λ (m : ℕ). days_before_month false m + month_length false m) 0 13 refl m (omega arith)

pub at_most_31 : (long : Bool) (m : ℕ) → m ≤ 12 → month_length long m ≤ 31
unfolding month_length
at_most_31 true m h = leb-true _ _ (same_below (λ (m : ℕ). leb (month_length true m) 31) (λ (m : ℕ). true) true 13 refl m (omega arith))
at_most_31 false m h = leb-true _ _ (same_below (λ (m : ℕ). leb (month_length false m) 31) (λ (m : ℕ). true) true 13 refl m (omega arith))

pub no_month : (long : Bool) (m : ℕ) → 12 < m → month_length long m ≡ 0
unfolding month_length
no_month long m h = get_or-eq_default (0 ∷ month_lengths long) 0 {n = m} (omega arith)

pub whole_year : (long : Bool) → days_before_month long 13 ≡ days_of long
unfolding days_before_month
whole_year true = refl
whole_year false = refl

pub months_follow : MonthsFollow
unfolding first_of
months_follow y m l h = omega (arith, next_month (leap y) m h)

pub december_ends : DecemberEnds
unfolding first_of
december_ends y h = omega (arith, whole_year (leap y), years_follow y h)

-- A day n of a year, as a month's day: the month and the day are in range, and lead back to n.
pub record IsMonthDay (long : Bool) (n : ℕ) (p : MonthDay) : Type 0 where
  pub month_low : 1 ≤ p.month
  pub month_high : p.month ≤ 12
  pub day_low : 1 ≤ p.day
  pub day_high : p.day ≤ p.length
  pub length_is : p.length ≡ month_length long p.month
  pub place : days_before_month long p.month + (p.day - 1) ≡ n

abbrev test : Bool → ℕ → MonthDay → Bool
test long n p =
    (leb 1 p.month && leb p.month 12) && (leb 1 p.day && leb p.day p.length)
    && (eqb p.length (month_length long p.month) && eqb (days_before_month long p.month + (p.day - 1)) n)

both : (a b : Bool) → a && b ≡ true → (a ≡ true) × (b ≡ true)
both true b e = (refl, e)
both false b e = absurd (let z : ◌≡◌ {A = ℕ} 0 1 = cc in omega arith)

from_test : (long : Bool) (n : ℕ) (p : MonthDay) → test long n p ≡ true → IsMonthDay long n p
from_test long n p e =
    let f = both _ _ e in
    let g = both _ _ f.0 in
    let m = both _ _ g.0 in
    let d = both _ _ g.1 in
    let l = both _ _ f.1 in
    record {
      month_low = leb-true _ _ m.0;
      month_high = leb-true _ _ m.1;
      day_low = leb-true _ _ d.0;
      day_high = leb-true _ _ d.1;
      length_is = eqb-true _ _ l.0;
      place = eqb-true _ _ l.1;
    }

pub month_day_is : (long : Bool) (n : ℕ) → n < days_of long → IsMonthDay long n (month_day_of long n)
unfolding month_day_of month_length days_before_month
month_day_is true n h = from_test true n _ (same_below (λ (n : ℕ). test true n (month_day_of true n)) (λ (n : ℕ). true) true 366 refl n h)
month_day_is false n h = from_test false n _ (same_below (λ (n : ℕ). test false n (month_day_of false n)) (λ (n : ℕ). true) true 365 refl n h)

-- past a year's table there is no day
pub past_table : (long : Bool) (n : ℕ) → days_of long + 7 ≤ n → table_day long n ≡ no_day
unfolding table_day
past_table long n h = rw (le-ltb _ _ h, table_day)

-- within the year a table has the year's own days
pub in_year : (long : Bool) (n : ℕ) → n < days_of long → table_day long n ≡ month_day_of long n
unfolding table_day
in_year long n h = rw (lt-ltb n (days_of long + 7) (omega arith), mod-eq_of_lt h, table_day)

-- what a year's table says at a place
pub table_at : (number : MonthDay → ℕ) (long : Bool) (n : ℕ) → n < 373 → get_or (year_table number long) n 0 ≡ number (table_day long n)
unfolding year_table
table_at number long n h = tab_at (λ (n : ℕ). number (table_day long n)) 0 373 n h
