-- What each filter reads is its list's test.
-- Assumes nothing.
use Prim.Native.Nat.{ℕ, zero, suc, ◌+◌, ◌-◌, ◌%◌, ◌≤◌, ◌<◌}
use mathlib.Core.Path.{◌≡◌, refl, sym, ap, ◌∙◌}
use mathlib.Core.Bool.{Bool, true, false, not, ◌&&◌, ◌||◌}
use mathlib.Core.List.{List}
use lib.IntN.{pos, neg_ℤ}
use lib.ListN.{get_or}
use native.Mathlib.Omega.{arith}
use Rattle.calendar.specs.Calendar.{days_of, weekday}
use Rattle.rule.specs.Lists.{monthdays, yeardays, is_in}
use Rattle.years.specs.declared.lists.Asked.{Asked}
use Rattle.years.specs.declared.iterinfo.IterInfo.{IterInfo}
use Rattle.nths.specs.Masks.{in_tables, year_day_at, year_length_at}
use Rattle.plain.specs.DaySets.{has_month, month_at}
use Rattle.days.specs.Filters.{DayLists, where_asked, has_day, has_left, monthday_at, yearday_at, weekday_at, place_passes}
use Rattle.nths.proofs.Rows.{year_day_lem}
use Rattle.nths.proofs.Slots.{in_forward, in_back, end_slots, every_slot}

-- where BYMONTHDAY has a value, its flag is read
pub day_slot : (s : List Bool) (d : ℕ) → 1 ≤ d → d ≤ 31 → is_in monthdays s (pos d) ≡ get_or s (30 + d) false
day_slot s zero l h = absurd (omega arith)
day_slot s (suc d) l h = in_forward monthdays s d (omega arith) ∙ ap (λ (i : ℕ). get_or s i false) (omega arith)

pub left_slot : (s : List Bool) (d : ℕ) → 1 ≤ d → d ≤ 31 → is_in monthdays s (neg_ℤ (pos d)) ≡ get_or s (31 - d) false
left_slot s zero l h = absurd (omega arith)
left_slot s (suc d) l h = in_back monthdays s d (omega arith)

pub month_read : (a : Bool) (table : List ℕ) (s : List Bool) (i : ℕ) (r : Bool) → a ≡ true → r ≡ has_month s (get_or table i 0)
    → not r ≡ not (where_asked a (month_at table s i))
unfolding month_at
month_read a table s i r h e = rw (h, e)

pub month_day_read : (a : Bool) (days ends : List ℕ) (s : List Bool) (i : ℕ) (p q : Bool) → a ≡ true
    → p ≡ has_day s (get_or days i 0) → q ≡ has_left s (get_or ends i 0) → not (p || q) ≡ not (where_asked a (monthday_at days ends s i))
unfolding monthday_at
month_day_read a days ends s i p q h e f = rw (h, e, f)

pub year_day_read : (a long nextlong : Bool) (s : List Bool) (i p l : ℕ) → a ≡ true → i < days_of long + 7
    → p ≡ year_day_at long i → l ≡ year_length_at long nextlong i + 1 - year_day_at long i
    → not (get_or s (365 + p) false || get_or s (366 - l) false) ≡ not (where_asked a (yearday_at long nextlong s i))
unfolding yearday_at
year_day_read a long nextlong s i p l h k e f =
    let r = year_day_lem long nextlong i k in
    let day : ℕ = year_day_at long i in
    let length : ℕ = year_length_at long nextlong i in
    let x : 365 + p ≡ 366 + day - 1 = omega arith in
    let y : 366 - l ≡ 366 - (length + 1 - day) = omega arith in
    rw (h, x, y, end_slots yeardays s day length refl r.low r.high r.length_high r.length_high)

pub weekday_read : (a nth : Bool) (first : ℕ) (s nths : List Bool) (i w : ℕ) → a ≡ true → w ≡ weekday (first + i)
    → not (get_or s (371 + w) false || (nth && get_or nths i false)) ≡ not (where_asked a (weekday_at nth first s nths i))
unfolding weekday_at
weekday_read a nth first s nths i w h e =
    rw (h, e, every_slot s ((first + i) % 7) (omega arith))

-- A place past the tables fails; another fails where some list filters it out.
pub past_fails : (a : Asked) (info : IterInfo) (l : DayLists) (i : ℕ) → in_tables info.year.long i ≡ false → true ≡ not (place_passes a info l i)
unfolding place_passes
past_fails a info l i h = rw h

not_all : (a b c d e : Bool) → (not a || (not b || (not c || (not d || not e)))) ≡ not (a && (b && (c && (d && e))))
not_all true true true true e = refl
not_all true true true false e = refl
not_all true true false d e = refl
not_all true false c d e = refl
not_all false b c d e = refl

pub some_filters : (a : Asked) (info : IterInfo) (l : DayLists) (i : ℕ) → in_tables info.year.long i ≡ true
    → (not (where_asked a.month (month_at info.months l.bymonth i))
    || (not (where_asked a.monthday (monthday_at info.monthdays info.fromends l.bymonthday i))
    || (not (where_asked a.yearday (yearday_at info.year.long info.year.nextlong l.byyearday i))
    || (not (where_asked a.weekno (get_or info.weeks i false))
    || not (where_asked a.day (weekday_at a.nth info.year.first l.byday info.nths i))))))
    ≡ not (place_passes a info l i)
unfolding place_passes
some_filters a info l i h =
    rw h (not_all
    (where_asked a.month (month_at info.months l.bymonth i))
    (where_asked a.monthday (monthday_at info.monthdays info.fromends l.bymonthday i))
    (where_asked a.yearday (yearday_at info.year.long info.year.nextlong l.byyearday i))
    (where_asked a.weekno (get_or info.weeks i false))
    (where_asked a.day (weekday_at a.nth info.year.first l.byday info.nths i)))

-- The filters are asked one behind another: here one filters the place out, or it doesn't and a later one tells.
pub told_here : (r n rest : Bool) → r ≡ n → r ≡ true → r ≡ (n || rest)
told_here r n rest e h = rw (sym e ∙ h) h

pub told_later : (r s n rest : Bool) → s ≡ n → s ≡ false → r ≡ rest → r ≡ (n || rest)
told_later r s n rest e h later = rw (sym e ∙ h) later
