-- `days::iterinfo::get_dayset` meets its contract.
-- Assumes nothing.
use mathlib.Core.Path.{sym, ◌∙◌}
use Rattle.days.specs.Filters.{rule_lists}
use Rattle.days.proofs.Stretches.{by_month, by_none, by_sole, as_set}
use Rattle.days.proofs.iterinfo.get_dayset.Goals as goal

pub returns-then-is_plain : goal.returns-then-is_plain
returns-then-is_plain c =
    let p = c in
    let s = p in
    let a = s.args in
    let w = as_set _ _ _ _ _
    (by_none a.asked a.info.now (rule_lists a.rule.now) a.from a.to (sym p.is_plain.ensures ∙ c.if-is_plain.true))
    c.plain_days.ensures.count c.plain_days.ensures.places in record { count = w.0; places = w.1 }

pub returns-then-asked : goal.returns-then-asked
returns-then-asked c =
    let m = c in
    let s = m in
    let a = s.args in
    let w = as_set _ _ _ _ _
    (by_month a.asked a.info.now (rule_lists a.rule.now) a.from a.to
    (sym m.is_mixed.ensures ∙ c.if-is_mixed.false) c.if-asked.true)
    c.days_by_month.ensures.count c.days_by_month.ensures.places in record { count = w.0; places = w.1 }

pub returns : goal.returns
returns c =
    let m = c in
    let p = m in
    let s = p in
    let a = s.args in
    let w = as_set _ _ _ _ _
    (by_sole a.asked a.info.now (rule_lists a.rule.now) a.from a.to
    (sym p.is_plain.ensures ∙ m.if-is_plain.false) (sym m.is_mixed.ensures ∙ c.if-is_mixed.false) c.if-asked.false)
    c.sole_days.ensures.count c.sole_days.ensures.places in record { count = w.0; places = w.1 }
