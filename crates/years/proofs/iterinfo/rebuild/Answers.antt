-- `years::iterinfo::rebuild` meets its contract.
-- Assumes nothing.
use mathlib.Core.Path.{◌≡◌, refl, sym, ◌∙◌}
use Rattle.calendar.specs.Calendar.{month_table, month_day_table}
use Rattle.weeks.specs.Weeks.{week_mask}
use Rattle.nths.specs.Masks.{nth_mask}
use Rattle.years.specs.Info.{no_table, no_mask, table_where, mask_where}
use Rattle.years.proofs.InfoLaws.{blank, made, info_is, months_alone, masks_alone}
use Rattle.years.proofs.iterinfo.rebuild.Goals as goal
use Rattle.years.proofs.iterinfo.rebuild.Goals.{Joined-asked-3, Joined-asked-5}
use Rattle.years.proofs.iterinfo.rebuild.Goals.{then-asked-2, else-asked-2, then-asked-3, else-asked-3, then-asked-4, else-asked-4, then-asked-5, else-asked-5}

pub returns-then-asked : goal.returns-then-asked
returns-then-asked c =
    let a = c.args in
    let y = c.year_info-year in
    c.month_year.ensures
    ∙ months_alone a.asked a.inyear a.rule.now.wkst a.number a.rule.now.byweekno a.rule.now.byday y.result y.ensures (month_table y.result.long)
    (sym c.asks_more.ensures ∙ c.if-not-asks_more.true) (made _ _ _ no_table c.if-asked.true refl)

pub returns-then-not-asks_more : goal.returns-then-not-asks_more
returns-then-not-asks_more c =
    let a = c.args in
    let y = c.year_info-year in
    c.bare_year.ensures
    ∙ months_alone a.asked a.inyear a.rule.now.wkst a.number a.rule.now.byweekno a.rule.now.byday y.result y.ensures no_table
    (sym c.asks_more.ensures ∙ c.if-not-asks_more.true) (blank _ _ no_table c.if-asked.false)

-- what is made where it is asked for
weeks_are : (c : Joined-asked-3) → c.if-asked-2.weeks ≡ mask_where c.args.asked.weekno (week_mask c.args.rule.now.wkst c.args.rule.now.byweekno c.args.number)
weeks_are c = elim c.if-asked-2.branch [
  | then-asked-2 w ↦ w.weeks-is ∙ made _ _ _ no_mask w.if-asked-2.true w.week_no_mask-weeks.ensures
  | else-asked-2 w ↦ w.weeks-is ∙ blank _ _ no_mask w.if-asked-2.false
]

nths_are : (c : Joined-asked-3) → c.if-asked-3.nths ≡ mask_where c.args.asked.nth (nth_mask c.args.inyear c.year_info-year.result c.args.rule.now.byday)
nths_are c = elim c.if-asked-3.branch [
  | then-asked-3 w ↦ w.nths-is ∙ made _ _ _ no_mask w.if-asked-3.true w.neg_weekday_mask-nths.ensures
  | else-asked-3 w ↦ w.nths-is ∙ blank _ _ no_mask w.if-asked-3.false
]

months_are : (c : Joined-asked-5) → c.if-asked-4.months ≡ table_where c.args.asked.month (month_table c.year_info-year.result.long)
months_are c = elim c.if-asked-4.branch [
  | then-asked-4 w ↦ w.months-is ∙ made _ _ _ no_table w.if-asked-4.true w.month_table-months.ensures
  | else-asked-4 w ↦ w.months-is ∙ blank _ _ no_table w.if-asked-4.false
]

days_are : (c : Joined-asked-5) → c.if-asked-5.monthdays ≡ table_where c.args.asked.monthday (month_day_table c.year_info-year.result.long)
days_are c = elim c.if-asked-5.branch [
  | then-asked-5 w ↦ w.monthdays-is ∙ made _ _ _ no_table w.if-asked-5.true w.month_day_table-monthdays.ensures
  | else-asked-5 w ↦ w.monthdays-is ∙ blank _ _ no_table w.if-asked-5.false
]

pub returns-then-not-asked : goal.returns-then-not-asked
returns-then-not-asked c =
    let m = (goal.at.returns-then-not-asked c).Joined-asked-3 in
    let a = c.args in
    let y = c.year_info-year in
    c.masked_year.ensures
    ∙ masks_alone a.asked a.inyear a.rule.now.wkst a.number a.rule.now.byweekno a.rule.now.byday y.result y.ensures
    c.if-asked-2.weeks c.if-asked-3.nths c.if-not-asked.true (weeks_are m) (nths_are m)

pub returns-then-asked-6 : goal.returns-then-asked-6
returns-then-asked-6 c =
    let m = (goal.at.returns-then-asked-6 c).Joined-asked-3 in
    let d = (goal.at.returns-then-asked-6 c).Joined-asked-5 in
    let a = c.args in
    let y = c.year_info-year in
    info_is a.asked a.inyear a.rule.now.wkst a.number a.rule.now.byweekno a.rule.now.byday y.result y.ensures
    c.if-asked-4.months c.if-asked-5.monthdays c.month_day_from_end_table-fromends.result c.if-asked-2.weeks c.if-asked-3.nths
    (months_are d) (days_are d) (made _ _ _ no_table c.if-asked-6.true c.month_day_from_end_table-fromends.ensures) (weeks_are m) (nths_are m)

pub returns-else-asked-6 : goal.returns-else-asked-6
returns-else-asked-6 c =
    let m = (goal.at.returns-else-asked-6 c).Joined-asked-3 in
    let d = (goal.at.returns-else-asked-6 c).Joined-asked-5 in
    let a = c.args in
    let y = c.year_info-year in
    info_is a.asked a.inyear a.rule.now.wkst a.number a.rule.now.byweekno a.rule.now.byday y.result y.ensures
    c.if-asked-4.months c.if-asked-5.monthdays no_table c.if-asked-2.weeks c.if-asked-3.nths
    (months_are d) (days_are d) (blank _ _ no_table c.if-asked-6.false) (weeks_are m) (nths_are m)
