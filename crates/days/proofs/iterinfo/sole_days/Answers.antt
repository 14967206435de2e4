-- `days::iterinfo::sole_days` meets its contract.
-- Assumes nothing.
use Prim.Native.Nat.{ℕ, ◌+◌, ◌≤◌, min}
use mathlib.Core.Path.{◌≡◌, refl, sym, ap, ◌∙◌}
use mathlib.Core.Bool.{not}
use mathlib.Core.List.{List, []}
use native.Mathlib.Omega.{arith}
use borrow.Author.Tests.{not-true}
use Rattle.calendar.specs.Calendar.{days_of}
use Rattle.rule.proofs.FillLaws.{both}
use Rattle.nths.proofs.Rows.{days_high}
use Rattle.days.specs.Filters.{rule_lists}
use Rattle.days.specs.DaySets.{sole_days}
use Rattle.days.proofs.Stretches.{sole_none, sole_year_days, sole_weeks, sole_weekdays, by_nths, as_set}
use Rattle.days.proofs.iterinfo.sole_days.Goals as goal
use Rattle.days.proofs.iterinfo.sole_days.Goals.{After-stretch_end-end, Start}

-- the set up to an end, and that the stretch's end is the one that is promised
abbrev set_to : Start → ℕ → List ℕ
set_to s n =
    let a = s.args in
    sole_days a.asked a.info.now (rule_lists a.rule.now) a.from n

as_promised : (c : After-stretch_end-end) (xs : List ℕ) → set_to c.before c.stretch_end-end.result ≡ xs
    → set_to c.before (min c.args.to (days_of c.args.info.now.year.long + 7)) ≡ xs
as_promised c xs e = ap (λ (n : ℕ). set_to c.before n) (sym c.stretch_end-end.ensures) ∙ e

in_tables : (c : After-stretch_end-end) → c.stretch_end-end.result ≤ 373
in_tables c = omega (arith, c.stretch_end-end.ensures, days_high c.args.info.now.year.long)

pub returns-then-end-from : goal.returns-then-end-from
returns-then-end-from c =
    let e = c in
    let a = e.args in
    let w = as_set _ [] _ _ _
    (as_promised (goal.at.returns-then-end-from c).After-stretch_end-end [] (sole_none a.asked a.info.now (rule_lists a.rule.now) a.from
    e.stretch_end-end.result c.if-end-from.true))
    refl refl in record { count = w.0; places = w.1 }

pub year_days-requires : goal.year_days-requires
year_days-requires c = let e = c in (in_tables (goal.at.year_days-requires c).After-stretch_end-end, omega (arith, e.stretch_end-end.ensures))

pub returns-then-asked : goal.returns-then-asked
returns-then-asked c =
    let here = goal.at.returns-then-asked c in
    let e = c in
    let a = e.args in
    let w = as_set _ _ _ _ _
    (as_promised here.After-stretch_end-end _ (sole_year_days a.asked a.info.now (rule_lists a.rule.now) a.from e.stretch_end-end.result
    c.if-asked.true))
    c.year_days.ensures.count c.year_days.ensures.places in record { count = w.0; places = w.1 }

pub marked_days-requires : goal.marked_days-requires
marked_days-requires c = let n = c in (n.if-end-from.false, in_tables (goal.at.marked_days-requires c).After-stretch_end-end)

pub returns-then-asked-2 : goal.returns-then-asked-2
returns-then-asked-2 c =
    let here = goal.at.returns-then-asked-2 c in
    let e = c in
    let a = e.args in
    let w = as_set _ _ _ _ _
    (as_promised here.After-stretch_end-end _ (sole_weeks a.asked a.info.now (rule_lists a.rule.now) a.from e.stretch_end-end.result
    c.if-asked.false c.if-asked-2.true))
    c.marked_days.ensures.count c.marked_days.ensures.places in record { count = w.0; places = w.1 }

pub marked_days-requires-then-asked-has_every : goal.marked_days-requires-then-asked-has_every
marked_days-requires-then-asked-has_every c =
    let here = goal.at.marked_days-requires-then-asked-has_every c in
    let n = c in (n.if-end-from.false, in_tables here.After-stretch_end-end)

pub returns-then-asked-has_every : goal.returns-then-asked-has_every
returns-then-asked-has_every c =
    let here = goal.at.returns-then-asked-has_every c in
    let v = c in
    let e = v in
    let a = e.args in
    let h = both a.asked.nth (not v.has_every.result) c.if-asked-has_every.true in
    let w = as_set _ _ _ _ _
    (as_promised here.After-stretch_end-end _ (sole_weekdays a.asked a.info.now (rule_lists a.rule.now) a.from e.stretch_end-end.result
    v.if-asked.false v.if-asked-2.false
    ∙ by_nths a.asked.nth a.info.now.year.first a.rule.now.byday a.info.now.nths a.from e.stretch_end-end.result
    h.0 (sym v.has_every.ensures ∙ not-true _ h.1)))
    c.marked_days-then-asked-has_every.ensures.count c.marked_days-then-asked-has_every.ensures.places in record { count = w.0; places = w.1 }

pub weekday_days-requires : goal.weekday_days-requires
weekday_days-requires c = let n = c in (n.if-end-from.false, in_tables (goal.at.weekday_days-requires c).After-stretch_end-end)

pub returns : goal.returns
returns c =
    let here = goal.at.returns c in
    let v = c in
    let e = v in
    let a = e.args in
    let w = as_set _ _ _ _ _
    (as_promised here.After-stretch_end-end _ (sole_weekdays a.asked a.info.now (rule_lists a.rule.now) a.from e.stretch_end-end.result
    v.if-asked.false v.if-asked-2.false))
    c.weekday_days.ensures.count c.weekday_days.ensures.places in record { count = w.0; places = w.1 }
