-- `days::filters::is_filtered_by_month` meets its contract.
-- Assumes nothing.
use Rattle.days.proofs.FilterLaws.{month_read}
use Rattle.days.proofs.filters.is_filtered_by_month.Goals as goal

pub returns-then-asked : goal.returns-then-asked
returns-then-asked c =
    let a = c.args in
    month_read a.asked a.info.now.months a.rule.now.bymonth a.place c.has_month.result c.if-asked.true c.has_month.ensures
