-- `days::filters::is_filtered` meets its contract.
-- Assumes nothing.
use Prim.Native.Nat.{◌+◌, ◌<◌}
use mathlib.Core.Path.{◌≡◌, ◌∙◌}
use mathlib.Core.Bool.{true}
use native.Mathlib.Omega.{arith}
use borrow.Author.Tests.{lt-ltb, le-ltb}
use Rattle.calendar.specs.Calendar.{days_of}
use Rattle.nths.specs.Masks.{in_tables}
use Rattle.nths.proofs.Rows.{days_high}
use Rattle.days.proofs.FilterLaws.{past_fails, some_filters, told_here, told_later}
use Rattle.days.specs.Filters.{rule_lists}
use Rattle.days.proofs.filters.is_filtered.Goals as goal
use Rattle.days.proofs.filters.is_filtered.Goals.{Else-days_of-place}

pub overflow_add-days_of : goal.overflow_add-days_of
overflow_add-days_of c = omega (arith, c.days_of.ensures, days_high c.args.info.now.year.long)

pub returns-then-days_of-place : goal.returns-then-days_of-place
returns-then-days_of-place c =
    let s = c in
    past_fails s.args.asked s.args.info.now (rule_lists s.args.rule.now) s.args.place
    (le-ltb s.args.place (days_of s.args.info.now.year.long + 7) (omega (arith, c.days_of.ensures, c.if-days_of-place.true)))

-- the place lies in the tables, and in the masks
in_place : (c : Else-days_of-place) → c.args.place < days_of c.args.info.now.year.long + 7
in_place c = omega (arith, c.days_of.ensures, c.if-days_of-place.false)

in_mask : (c : Else-days_of-place) → c.args.place < 373
in_mask c = omega (arith, in_place c, days_high c.args.info.now.year.long)

inside : (c : Else-days_of-place) → in_tables c.args.info.now.year.long c.args.place ≡ true
inside c = lt-ltb c.args.place (days_of c.args.info.now.year.long + 7) (in_place c)

pub is_filtered_by_month-requires : goal.is_filtered_by_month-requires
is_filtered_by_month-requires c = in_mask c

pub is_filtered_by_month_day-requires : goal.is_filtered_by_month_day-requires
is_filtered_by_month_day-requires c = in_mask (goal.at.is_filtered_by_month_day-requires c).Else-days_of-place

pub is_filtered_by_year_day-requires : goal.is_filtered_by_year_day-requires
is_filtered_by_year_day-requires c = in_place (goal.at.is_filtered_by_year_day-requires c).Else-days_of-place

pub is_filtered_by_week_number-requires : goal.is_filtered_by_week_number-requires
is_filtered_by_week_number-requires c = in_mask (goal.at.is_filtered_by_week_number-requires c).Else-days_of-place

pub is_filtered_by_weekday-requires : goal.is_filtered_by_weekday-requires
is_filtered_by_weekday-requires c = in_mask (goal.at.is_filtered_by_weekday-requires c).Else-days_of-place

-- the filters in their order, from the first that tells on
pub returns-then-is_filtered_by_month : goal.returns-then-is_filtered_by_month
returns-then-is_filtered_by_month c =
    let a = c.args in
    told_here _ _ _ c.is_filtered_by_month.ensures c.if-is_filtered_by_month.true
    ∙ some_filters a.asked a.info.now (rule_lists a.rule.now) a.place (inside (goal.at.returns-then-is_filtered_by_month c).Else-days_of-place)

pub returns-then-is_filtered_by_month_day : goal.returns-then-is_filtered_by_month_day
returns-then-is_filtered_by_month_day c =
    let a = c.args in
    told_later _ _ _ _ c.is_filtered_by_month.ensures c.if-is_filtered_by_month.false
    (told_here _ _ _ c.is_filtered_by_month_day.ensures c.if-is_filtered_by_month_day.true)
    ∙ some_filters a.asked a.info.now (rule_lists a.rule.now) a.place (inside (goal.at.returns-then-is_filtered_by_month_day c).Else-days_of-place)

pub returns-then-is_filtered_by_year_day : goal.returns-then-is_filtered_by_year_day
returns-then-is_filtered_by_year_day c =
    let a = c.args in
    told_later _ _ _ _ c.is_filtered_by_month.ensures c.if-is_filtered_by_month.false
    (told_later _ _ _ _ c.is_filtered_by_month_day.ensures c.if-is_filtered_by_month_day.false
    (told_here _ _ _ c.is_filtered_by_year_day.ensures c.if-is_filtered_by_year_day.true))
    ∙ some_filters a.asked a.info.now (rule_lists a.rule.now) a.place (inside (goal.at.returns-then-is_filtered_by_year_day c).Else-days_of-place)

pub returns-then-is_filtered_by_week_number : goal.returns-then-is_filtered_by_week_number
returns-then-is_filtered_by_week_number c =
    let a = c.args in
    told_later _ _ _ _ c.is_filtered_by_month.ensures c.if-is_filtered_by_month.false
    (told_later _ _ _ _ c.is_filtered_by_month_day.ensures c.if-is_filtered_by_month_day.false
    (told_later _ _ _ _ c.is_filtered_by_year_day.ensures c.if-is_filtered_by_year_day.false
    (told_here _ _ _ c.is_filtered_by_week_number.ensures c.if-is_filtered_by_week_number.true)))
    ∙ some_filters a.asked a.info.now (rule_lists a.rule.now) a.place (inside (goal.at.returns-then-is_filtered_by_week_number c).Else-days_of-place)

pub returns-else-is_filtered_by_week_number : goal.returns-else-is_filtered_by_week_number
returns-else-is_filtered_by_week_number c =
    let a = c.args in
    told_later _ _ _ _ c.is_filtered_by_month.ensures c.if-is_filtered_by_month.false
    (told_later _ _ _ _ c.is_filtered_by_month_day.ensures c.if-is_filtered_by_month_day.false
    (told_later _ _ _ _ c.is_filtered_by_year_day.ensures c.if-is_filtered_by_year_day.false
    (told_later _ _ _ _ c.is_filtered_by_week_number.ensures c.if-is_filtered_by_week_number.false
    c.is_filtered_by_weekday.ensures)))
    ∙ some_filters a.asked a.info.now (rule_lists a.rule.now) a.place (inside (goal.at.returns-else-is_filtered_by_week_number c).Else-days_of-place)
