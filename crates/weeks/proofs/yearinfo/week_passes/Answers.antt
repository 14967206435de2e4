-- `weeks::yearinfo::week_passes` meets its contract.
-- Assumes nothing.
use mathlib.Core.Path.{◌≡◌, ap, ◌∙◌}
use native.Mathlib.Omega.{arith}
use Rattle.weeks.specs.Weeks.{passes_around}
use Rattle.weeks.proofs.Numbers.{around_last, around_own, around_next}
use Rattle.weeks.proofs.yearinfo.week_passes.Goals as goal

pub returns-then-week-eq0 : goal.returns-then-week-eq0
returns-then-week-eq0 c =
    let a = c.args in
    let e : 0 ≡ a.week = omega arith in
    c.number_passes.ensures ∙ around_last a.weeknos.now a.weeks c.requires.0 _ _ (omega arith) (omega arith)
    ∙ ap (passes_around a.weeknos.now a.weeks) e

pub returns-then-week-weeks : goal.returns-then-week-weeks
returns-then-week-weeks c =
    let b = c in
    let a = b.args in
    c.number_passes-then-week-weeks.ensures
    ∙ around_own a.weeknos.now a.weeks b.requires.0 _ _ a.week (omega arith) (omega arith) (omega arith) (omega arith)

pub returns : goal.returns
returns c =
    let b = c in
    let a = b.args in
    c.number_passes-2.ensures
    ∙ around_next a.weeknos.now a.weeks b.requires.0 _ _ a.week (omega arith) (omega arith) (omega arith) (omega arith)
