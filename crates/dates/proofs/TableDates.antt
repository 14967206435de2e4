-- The date that the code reads off the year tables is the day's date.
-- Assumes nothing.
use mathlib.Core.Path.{◌≡◌, refl, sym, ◌∙◌, ap}
use mathlib.Core.Bool.{Bool}
use Prim.Native.Nat.{ℕ, ◌+◌, ◌-◌, ◌≤◌}
use native.Mathlib.Omega.{arith}
use native.Mathlib.Nat.{add-sub_cancel}
use Rattle.calendar.specs.Calendar.{leap, new_year, year_of, MonthDay, month_day_of, from_end, table_day, date_in, year_day, date_of}
use Rattle.calendar.proofs.Years.{place_is}
use Rattle.calendar.proofs.Months.{month_day_is, at_most_31, in_year}
use Rattle.calendar.proofs.Dates.{date_at_lem}

-- What the code reads off the tables for the day d: the year y, the days before it, the month, the day and the day from the end.
pub record TableDate (d y before m a e : ℕ) : Type 0 where
  pub from : before ≤ d
  pub low : 1 ≤ a + e
  pub high : a + e ≤ 32
  pub date : record { year = y; month = m; day = a; length = a + e - 1 } ≡ date_of d

row : (d : ℕ) → table_day (leap (year_of d)) (d - new_year (year_of d)) ≡ month_day_of (leap (year_of d)) (year_day d)
unfolding year_day
row d = in_year (leap (year_of d)) (year_day d) (place_is d).in_year

both_ends : (a l : ℕ) → 1 ≤ a → a ≤ l → a + (l - (a - 1)) ≡ l + 1
both_ends a l p q = omega arith

read_off : (d : ℕ) (p : MonthDay) → p ≡ month_day_of (leap (year_of d)) (year_day d)
    → TableDate d (year_of d) (new_year (year_of d)) p.month p.day (from_end p)
read_off d p e =
    let h = place_is d in
    let g = rw (← e) at (month_day_is (leap (year_of d)) (year_day d) h.in_year) in
    let s : p.day + from_end p ≡ p.length + 1 = both_ends p.day p.length g.day_low g.day_high in
    let l : p.length ≤ 31 = omega (arith, at_most_31 (leap (year_of d)) p.month g.month_high) in
    record {
      from = omega arith;
      low = omega arith;
      high = omega arith;
      date = rw (s, add-sub_cancel p.length 1) (ap (date_in (year_of d)) e ∙ sym (date_at_lem d _ _ refl refl));
    }

pub table_date : (d y before m a e : ℕ) (long : Bool) → y ≡ year_of d → long ≡ leap y → before ≡ new_year y
    → m ≡ (table_day long (d - before)).month → a ≡ (table_day long (d - before)).day → e ≡ from_end (table_day long (d - before))
    → TableDate d y before m a e
table_date d y before m a e long p q r s t u = rw (s, t, u, r, q, p) (read_off d _ (row d))
