-- `days::filters::is_filtered_by_month_day` meets its contract.
-- Assumes nothing.
use Rattle.days.proofs.FilterLaws.{month_day_read}
use Rattle.days.proofs.filters.is_filtered_by_month_day.Goals as goal

pub returns-then-asked : goal.returns-then-asked
returns-then-asked c =
    let a = c.args in
    month_day_read a.asked a.info.now.monthdays a.info.now.fromends a.rule.now.bymonthday a.place c.has_day.result c.has_left.result
    c.if-asked.true c.has_day.ensures c.has_left.ensures
