-- The tables and masks of a year, made where they are asked for, and the year with them.
-- Assumes nothing.
use Rattle.std.specs.Prelude.{if◌then◌else◌}
use Prim.Native.Nat.{ℕ}
use mathlib.Core.Path.{◌≡◌, ap, ◌∙◌}
use mathlib.Core.Bool.{Bool, true, false, ◌||◌}
use mathlib.Core.List.{List}
use Rattle.calendar.specs.Calendar.{month_table, month_day_table, from_end_table}
use Rattle.rule.proofs.GivenLaws.{neither}
use Rattle.weeks.specs.declared.yearinfo.Year.{Year}
use Rattle.weeks.specs.Weeks.{year_info, week_mask}
use Rattle.nths.specs.Masks.{nth_mask}
use Rattle.years.specs.declared.lists.Asked.{Asked}
use Rattle.years.specs.Info.{no_table, no_mask, table_where, mask_where, asks_more, info_by, info_of}

-- what is not asked for is blank, and what is asked for is made
pub blank : {A : Type 0} (a : Bool) (made none : A) → a ≡ false → none ≡ (if a then made else none)
blank a made none h = rw h

pub made : {A : Type 0} (a : Bool) (x made none : A) → a ≡ true → x ≡ made → x ≡ (if a then made else none)
made a x m none h e = rw h e

module _ (a : Asked) (inyear : Bool) (wkst y : ℕ) (weeknos days : List Bool) (year : Year) (e : year ≡ year_info y) where
  pub info_is : (months monthdays fromends : List ℕ) (weeks nths : List Bool)
      → months ≡ table_where a.month (month_table year.long) → monthdays ≡ table_where a.monthday (month_day_table year.long)
      → fromends ≡ table_where a.monthday (from_end_table year.long)
      → weeks ≡ mask_where a.weekno (week_mask wkst weeknos y) → nths ≡ mask_where a.nth (nth_mask inyear year days)
      → info_by year months monthdays fromends weeks nths ≡ info_of a inyear wkst weeknos days y
  unfolding info_of
  info_is months monthdays fromends weeks nths m d l w n = λ i. record {
    year = e i;
    months = (m ∙ ap (λ (x : Year). table_where a.month (month_table x.long)) e) i;
    monthdays = (d ∙ ap (λ (x : Year). table_where a.monthday (month_day_table x.long)) e) i;
    fromends = (l ∙ ap (λ (x : Year). table_where a.monthday (from_end_table x.long)) e) i;
    weeks = w i;
    nths = (n ∙ ap (λ (x : Year). mask_where a.nth (nth_mask inyear x days)) e) i;
  }

  -- with the months at most, and with no table
  pub months_alone : (months : List ℕ) → asks_more a ≡ false → months ≡ table_where a.month (month_table year.long)
      → info_by year months no_table no_table no_mask no_mask ≡ info_of a inyear wkst weeknos days y
  months_alone months h m =
      let d = neither a.monthday (a.weekno || a.nth) h in
      let w = neither a.weekno a.nth d.1 in
      info_is months no_table no_table no_mask no_mask m (blank a.monthday _ no_table d.0) (blank a.monthday _ no_table d.0)
      (blank a.weekno _ no_mask w.0) (blank a.nth _ no_mask w.1)

  pub masks_alone : (weeks nths : List Bool) → (a.month || a.monthday) ≡ false
      → weeks ≡ mask_where a.weekno (week_mask wkst weeknos y) → nths ≡ mask_where a.nth (nth_mask inyear year days)
      → info_by year no_table no_table no_table weeks nths ≡ info_of a inyear wkst weeknos days y
  masks_alone weeks nths h w n =
      let m = neither a.month a.monthday h in
      info_is no_table no_table no_table weeks nths (blank a.month _ no_table m.0) (blank a.monthday _ no_table m.1) (blank a.monthday _ no_table m.1) w n
