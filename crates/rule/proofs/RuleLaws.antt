-- Records, put together from their parts.
-- Assumes nothing.
use Rattle.std.specs.Prelude.{Option, Some}
use mathlib.Core.Path.{◌≡◌, refl, ap, ◌∙◌}
use mathlib.Core.Bool.{Bool, ◌&&◌, ◌||◌}
use mathlib.Core.List.{List}
use Prim.Native.Nat.{ℕ, zero, suc, ◌+◌, ◌-◌, ◌/◌, ◌%◌, ◌≤◌, ◌<◌}
use native.Mathlib.Omega.{arith}
use lib.Dec.{eqb, ltb}
use lib.IntN.{pos}
use borrow.Author.Tests.{le-leb}
use Rattle.calendar.specs.declared.utils.Date.{Date}
use Rattle.calendar.specs.Calendar.{leap, date_of}
use Rattle.calendar.proofs.Dates.{date_is}
use Rattle.calendar.proofs.Months.{at_most_31}
use Rattle.rule.specs.declared.rrule.Frequency.{Frequency}
use Rattle.rule.specs.declared.rrule.Range.{Range}
use Rattle.rule.specs.declared.rrule.Rule.{Rule}
use Rattle.rule.specs.Instants.{second, day_of}
use Rattle.rule.specs.Lists.{from_zero, months, monthdays, yeardays, weeknos, hours, minutes, seconds, positions, zeros, slot_of, pair_slot, set_of}
use Rattle.rule.specs.Raw.{RawLists, entries, pairs}
use Rattle.rule.specs.Filling.{given_as, frequency_number, takes, no_days, fill_from, fill}

-- a record by its fields
abbrev pub rule_of : Frequency → ℕ → Option ℕ → Option ℕ → (wkst start : ℕ) → (bymonth bymonthday byyearday byweekno byday byhour byminute bysecond bysetpos : List Bool) → Rule
rule_of freq interval count until wkst start bymonth bymonthday byyearday byweekno byday byhour byminute bysecond bysetpos = record {
  freq = freq;
  interval = interval;
  count = count;
  until = until;
  wkst = wkst;
  start = start;
  bymonth = bymonth;
  bymonthday = bymonthday;
  byyearday = byyearday;
  byweekno = byweekno;
  byday = byday;
  byhour = byhour;
  byminute = byminute;
  bysecond = bysecond;
  bysetpos = bysetpos;
}

pub given_by_parts : (freq : Frequency) (interval : ℕ) (count : Option ℕ) (until : Option ℕ) (wkst start : ℕ) (l : RawLists)
    {bymonth bymonthday byyearday byweekno byday byhour byminute bysecond bysetpos : List Bool}
    → bymonth ≡ set_of 12 (entries months l.bymonth)
    → bymonthday ≡ set_of 62 (entries monthdays l.bymonthday)
    → byyearday ≡ set_of 732 (entries yeardays l.byyearday)
    → byweekno ≡ set_of 106 (entries weeknos l.byweekno)
    → byday ≡ set_of 749 (pairs l.bydayn l.bydayw)
    → byhour ≡ set_of 24 (entries hours l.byhour)
    → byminute ≡ set_of 60 (entries minutes l.byminute)
    → bysecond ≡ set_of 60 (entries seconds l.bysecond)
    → bysetpos ≡ set_of 732 (entries positions l.bysetpos)
    → rule_of freq interval count until wkst start bymonth bymonthday byyearday byweekno byday byhour byminute bysecond bysetpos
    ≡ given_as freq interval count until wkst start l
unfolding given_as
given_by_parts freq interval count until wkst start l e1 e2 e3 e4 e5 e6 e7 e8 e9 = cc

-- the slots of what the start gives
slot_positive : (g : Range) (v : ℕ) → 1 ≤ v → v ≤ g.positives → slot_of g (pos v) ≡ Some (g.negatives + zeros g + (v - 1))
unfolding slot_of
slot_positive g zero h k = absurd (omega arith)
slot_positive g (suc v) h k = let e : suc v - 1 ≡ v = omega arith in rw (le-leb (suc v) g.positives k, e)

slot_month : (m : ℕ) → 1 ≤ m → m ≤ 12 → slot_of months (pos m) ≡ Some (m - 1)
slot_month m h k = slot_positive months m h k ∙ ap Some (omega arith)

slot_monthday : (d : ℕ) → 1 ≤ d → d ≤ 31 → slot_of monthdays (pos d) ≡ Some (d + 30)
slot_monthday d h k = slot_positive monthdays d h k ∙ ap Some (omega arith)

pub slot_from_zero : (n v : ℕ) → v ≤ n → slot_of (from_zero n) (pos v) ≡ Some v
unfolding slot_of
slot_from_zero n zero k = refl
slot_from_zero n (suc v) k = rw (le-leb (suc v) n k) (ap Some (omega arith))

slot_weekday : (w : ℕ) → w < 7 → pair_slot (pos 0) (pos w) ≡ Some (371 + w)
unfolding pair_slot
slot_weekday w h = rw (slot_from_zero 6 w (omega arith))

fill_is : (r : Rule) → fill_from r (no_days r) (second r.start) (date_of (day_of (second r.start))) ≡ fill r
unfolding fill
fill_is r = refl

same_fill : (r : Rule) (s : ℕ) (date : Date) (free : Bool) → s ≡ second r.start → date ≡ date_of (s / 86400) → free ≡ no_days r → fill_from r free s date ≡ fill r
same_fill r s date free es ed ef =
    ap (λ (f : Bool). fill_from r f s date) ef
    ∙ ap (λ (d : Date). fill_from r (no_days r) s d) ed
    ∙ ap (λ (t : ℕ). fill_from r (no_days r) t (date_of (t / 86400))) es
    ∙ fill_is r

-- the filled record from its parts
from_parts : (r : Rule) (s n : ℕ) (date : Date) (free : Bool) {bymonth bymonthday byday byhour byminute bysecond : List Bool}
    → 1 ≤ date.month → date.month ≤ 12 → 1 ≤ date.day → date.day ≤ 31
    → n ≡ frequency_number r.freq
    → bymonth ≡ takes (free && eqb n 0) r.bymonth (Some (date.month - 1))
    → bymonthday ≡ takes (free && (eqb n 0 || eqb n 1)) r.bymonthday (Some (date.day + 30))
    → byday ≡ takes (free && eqb n 2) r.byday (Some (371 + s / 86400 % 7))
    → byhour ≡ takes (ltb n 4) r.byhour (Some (s % 86400 / 3600))
    → byminute ≡ takes (ltb n 5) r.byminute (Some (s % 3600 / 60))
    → bysecond ≡ takes (ltb n 6) r.bysecond (Some (s % 60))
    → rule_of r.freq r.interval r.count r.until r.wkst r.start bymonth bymonthday r.byyearday r.byweekno byday byhour byminute bysecond r.bysetpos
    ≡ fill_from r free s date
unfolding fill_from
from_parts r s n date free a b c d en e1 e2 e3 e4 e5 e6 =
    rw (
      ← en,
      slot_month date.month a b,
      slot_monthday date.day c d,
      slot_weekday (s / 86400 % 7) (omega arith),
      slot_from_zero 23 (s % 86400 / 3600) (omega arith),
      slot_from_zero 59 (s % 3600 / 60) (omega arith),
      slot_from_zero 59 (s % 60) (omega arith),
      e1,
      e2,
      e3,
      e4,
      e5,
      e6,
    )

short_day : (d : ℕ) → (date_of d).day ≤ 31
short_day d = let h = date_is d in omega (arith, at_most_31 (leap (date_of d).year) (date_of d).month h.month_high)

pub fill_by_parts : (r : Rule) (s n : ℕ) (date : Date) (free : Bool) {bymonth bymonthday byday byhour byminute bysecond : List Bool}
    → s ≡ second r.start
    → n ≡ frequency_number r.freq
    → date ≡ date_of (s / 86400)
    → free ≡ no_days r
    → bymonth ≡ takes (free && eqb n 0) r.bymonth (Some (date.month - 1))
    → bymonthday ≡ takes (free && (eqb n 0 || eqb n 1)) r.bymonthday (Some (date.day + 30))
    → byday ≡ takes (free && eqb n 2) r.byday (Some (371 + s / 86400 % 7))
    → byhour ≡ takes (ltb n 4) r.byhour (Some (s % 86400 / 3600))
    → byminute ≡ takes (ltb n 5) r.byminute (Some (s % 3600 / 60))
    → bysecond ≡ takes (ltb n 6) r.bysecond (Some (s % 60))
    → rule_of r.freq r.interval r.count r.until r.wkst r.start bymonth bymonthday r.byyearday r.byweekno byday byhour byminute bysecond r.bysetpos
    ≡ fill r
fill_by_parts r s n date free es en ed ef e1 e2 e3 e4 e5 e6 =
    let h = date_is (s / 86400) in
    from_parts r s n date free (rw ed h.month_low) (rw ed h.month_high) (rw ed h.day_low) (rw ed (short_day (s / 86400))) en e1 e2 e3 e4 e5 e6
    ∙ same_fill r s date free es ed ef
