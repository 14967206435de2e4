-- What is read for an nth weekday is base 2's test.
-- Assumes nothing.
use Prim.Native.Nat.{ℕ, ◌+◌, ◌-◌, ◌≤◌, ◌<◌}
use mathlib.Core.Path.{◌≡◌}
use mathlib.Core.Bool.{Bool, true, false}
use mathlib.Core.List.{List}
use native.Mathlib.Omega.{arith}
use borrow.Author.Tests.{ltb-true, lt-ltb}
use Rattle.calendar.specs.Calendar.{days_of, table_day, from_end, weekday}
use Rattle.rule.specs.Days.{nth_passes}
use Rattle.weeks.specs.declared.yearinfo.Year.{Year}
use Rattle.nths.specs.Masks.{in_tables, year_day_at, year_length_at, nth_at, day_at, left_at}
use Rattle.nths.proofs.Rows.{row, year_day_lem}

module _ (y : Year) (s : List Bool) (i : ℕ) where
  pub nth_past : (inyear : Bool) → in_tables y.long i ≡ false → false ≡ nth_at inyear y s i
  unfolding nth_at
  nth_past inyear h = rw h

  pub nth_in_year : (w p l : ℕ) → in_tables y.long i ≡ true → w ≡ weekday (y.first + i)
      → p ≡ year_day_at y.long i → l ≡ year_length_at y.long y.nextlong i + 1 - year_day_at y.long i
      → nth_passes s w p (p + l - 1) ≡ nth_at true y s i
  unfolding nth_at
  nth_in_year w p l h a b c =
      let r = year_day_lem y.long y.nextlong i (ltb-true i (days_of y.long + 7) h) in
      let e : p + l - 1 ≡ year_length_at y.long y.nextlong i = omega arith in
      rw (h, e, a, b)

  pub nth_in_month : (w p l : ℕ) → in_tables y.long i ≡ true → w ≡ weekday (y.first + i)
      → p ≡ (table_day y.long i).day → l ≡ from_end (table_day y.long i)
      → nth_passes s w p (p + l - 1) ≡ nth_at false y s i
  unfolding nth_at
  nth_in_month w p l h a b c =
      let r = row y.long i (ltb-true i (days_of y.long + 7) h) in
      let e : p + l - 1 ≡ (table_day y.long i).length = omega arith in
      rw (h, e, a, b)

  -- in the year, or else in the month
  pub nth_told : (inyear : Bool) (w p l : ℕ) → i < days_of y.long + 7 → w ≡ weekday (y.first + i) → p ≡ day_at inyear y i → l ≡ left_at inyear y i
      → nth_passes s w p (p + l - 1) ≡ nth_at inyear y s i
  nth_told true w p l h a b c = nth_in_year w p l (lt-ltb i (days_of y.long + 7) h) a b c
  nth_told false w p l h a b c = nth_in_month w p l (lt-ltb i (days_of y.long + 7) h) a b c

-- both ends are told within a year's length
pub record Ends (day left : ℕ) : Type 0 where
  pub day_low : 1 ≤ day
  pub day_high : day ≤ 366
  pub left_low : 1 ≤ left
  pub left_high : left ≤ 366

pub ends : (inyear : Bool) (y : Year) (i : ℕ) → i < days_of y.long + 7 → Ends (day_at inyear y i) (left_at inyear y i)
ends true y i h =
    let r = year_day_lem y.long y.nextlong i h in
    record { day_low = r.low; day_high = omega arith; left_low = omega arith; left_high = omega arith }
ends false y i h =
    let r = row y.long i h in
    record { day_low = r.day_low; day_high = omega arith; left_low = omega arith; left_high = omega arith }
