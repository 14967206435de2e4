-- `days::filters::is_filtered_by_weekday` meets its contract.
-- Assumes nothing.
use mathlib.Core.Path.{◌∙◌}
use borrow.Author.Tests.{not-false}
use Rattle.days.proofs.FilterLaws.{weekday_read}
use Rattle.days.proofs.filters.is_filtered_by_weekday.Goals as goal

pub returns : goal.returns
returns c =
    let a = c.args in
    c.is_filtered_on.ensures
    ∙ weekday_read a.asked.day a.asked.nth a.info.now.year.first a.rule.now.byday a.info.now.nths a.place c.weekday_at-weekday.result
    (not-false _ c.if-not-asked.false) c.weekday_at-weekday.ensures
