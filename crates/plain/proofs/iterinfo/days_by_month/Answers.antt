-- `plain::iterinfo::days_by_month` meets its contract.
-- Assumes nothing.
use Rattle.std.proofs.Common.{rules}
use Prim.Native.Nat.{ℕ, ◌+◌, ◌-◌, ◌≤◌, min}
use mathlib.Core.Path.{sym, ap, ◌∙◌}
use mathlib.Core.Bool.{Bool}
use mathlib.Core.List.{List}
use native.Mathlib.Omega.{arith}
use Rattle.calendar.specs.Calendar.{days_of}
use Rattle.clocks.specs.Blocks.{passing}
use Rattle.nths.proofs.Rows.{days_high}
use Rattle.plain.specs.DaySets.{month_at, month_days}
use Rattle.plain.proofs.Filling.{fill_begins, fill_no, fill_yes, fill_ends}
use Rattle.plain.proofs.iterinfo.days_by_month.Goals as goal
use Rattle.plain.proofs.iterinfo.days_by_month.Goals.{After-stretch_end-stop, Start}

-- the test and the day set
abbrev test : Start → ℕ → Bool
test s = month_at s.args.info.now.months s.args.rule.now.bymonth

abbrev kept : Start → List ℕ
kept s = let a = s.args in month_days a.info.now.months a.rule.now.bymonth a.from (min a.to (days_of a.info.now.year.long + 7))

-- the stretch ends with the tables
in_tables : (c : After-stretch_end-stop) → c.stretch_end-stop.result ≤ 373
in_tables c = omega (arith, c.stretch_end-stop.ensures, days_high c.args.info.now.year.long)

pub loop-place-init : goal.loop-place-init
unfolding month_days
loop-place-init c =
    let s = c in
    let a = s.args in
    fill_begins (test (goal.at.loop-place-init c).Start) c.stretch_end-stop.result (kept (goal.at.loop-place-init c).Start) a.days.now a.days.now 0 0 a.from
    (ap (λ (n : ℕ). passing (test (goal.at.loop-place-init c).Start) (n - a.from) a.from) (sym c.stretch_end-stop.ensures))

pub bounds-info-place : goal.bounds-info-place
bounds-info-place c = search (rules, in_tables (goal.at.bounds-info-place c).After-stretch_end-stop)

pub loop-place-preserved-then-not-has_month : goal.loop-place-preserved-then-not-has_month
unfolding month_at
loop-place-preserved-then-not-has_month c =
    let here = goal.at.loop-place-preserved-then-not-has_month c in
    let e = c in
    fill_no (test here.Start) e.stretch_end-stop.result (kept here.Start) e.args.days.now c.loop-place.days c.loop-place.taken c.loop-place.place
    c.loop-place-test.true (sym c.has_month.ensures ∙ c.if-not-has_month.true) c.loop-place.invariant

pub overflow_cast-days : goal.overflow_cast-days
overflow_cast-days c = search (rules, in_tables (goal.at.overflow_cast-days c).After-stretch_end-stop)

pub offset_bounds-days-taken : goal.offset_bounds-days-taken
offset_bounds-days-taken c = search (rules, in_tables (goal.at.offset_bounds-days-taken c).After-stretch_end-stop)

pub bounds-days-taken : goal.bounds-days-taken
bounds-days-taken c = search (rules, in_tables (goal.at.bounds-days-taken c).After-stretch_end-stop)

pub loop-place-preserved : goal.loop-place-preserved
unfolding month_at
loop-place-preserved c =
    let here = goal.at.loop-place-preserved c in
    let e = c in
    fill_yes (test here.Start) e.stretch_end-stop.result (kept here.Start) e.args.days.now c.loop-place.days c.loop-place.taken c.loop-place.place
    c.loop-place-test.true (sym c.has_month.ensures ∙ c.if-not-has_month.false) c.loop-place.invariant

pub returns : goal.returns
returns c =
    let here = goal.at.returns c in
    let e = c in
    let w = fill_ends (test here.Start) e.stretch_end-stop.result (kept here.Start) e.args.days.now c.loop-place.days c.loop-place.taken c.loop-place.place
    c.loop-place-test.false c.loop-place.invariant in record { count = w.0; places = w.1 }
