-- `opening::period::period_days` meets its contract.
-- Assumes nothing.
use mathlib.Core.Path.{sym, ◌∙◌}
use Rattle.days.specs.Filters.{rule_lists}
use Rattle.days.proofs.Stretches.{by_none, by_month_alone, as_set}
use Rattle.opening.proofs.period.period_days.Goals as goal

pub returns-then-is_plain : goal.returns-then-is_plain
returns-then-is_plain c =
    let a = c.args in
    let w = as_set _ _ _ _ _
    (by_none a.asked a.info.now (rule_lists a.rule.now) a.from a.to (sym c.is_plain.ensures ∙ c.if-is_plain.true))
    c.plain_days.ensures.count c.plain_days.ensures.places in record { count = w.0; places = w.1 }

pub returns-then-is_month_alone : goal.returns-then-is_month_alone
returns-then-is_month_alone c =
    let a = c.args in
    let w = as_set _ _ _ _ _
    (by_month_alone a.asked a.info.now (rule_lists a.rule.now) a.from a.to (sym c.is_month_alone.ensures ∙ c.if-is_month_alone.true))
    c.days_by_month.ensures.count c.days_by_month.ensures.places in record { count = w.0; places = w.1 }
