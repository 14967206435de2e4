-- `basics::rrule::fresh` meets its contract.
-- Assumes nothing.
use mathlib.Core.Path.{refl, sym, ◌∙◌}
use mathlib.Core.Bool.{true, false}
use borrow.Author.Tests.{eq-eqb, ne_eqb}
use Rattle.rule.proofs.FreshLaws.{fresh_by}
use Rattle.basics.proofs.rrule.fresh.Goals as goal

pub returns-then-is_nought : goal.returns-then-is_nought
returns-then-is_nought c = c.cursor_in.ensures ∙ fresh_by _ true _ (sym c.is_nought.ensures ∙ c.if-is_nought.true) refl

pub returns-then-rule-eq0 : goal.returns-then-rule-eq0
returns-then-rule-eq0 c =
    c.cursor_in-then-rule-eq0.ensures
    ∙ fresh_by _ false true (sym c.is_nought.ensures ∙ c.if-is_nought.false) (eq-eqb _ _ c.if-rule-eq0.true)

pub returns : goal.returns
returns c =
    c.cursor_in-2.ensures
    ∙ fresh_by _ false false (sym c.is_nought.ensures ∙ c.if-is_nought.false) (ne_eqb _ _ c.if-rule-eq0.false)
