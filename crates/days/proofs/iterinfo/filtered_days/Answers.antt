-- `days::iterinfo::filtered_days` meets its contract.
-- Assumes nothing.
use Rattle.std.proofs.Common.{rules}
use Prim.Native.Nat.{ℕ, ◌-◌, ◌≤◌}
use mathlib.Core.Bool.{Bool}
use mathlib.Core.List.{List}
use mathlib.Core.Path.{◌∙◌, ap, sym}
use native.Mathlib.Omega.{arith}
use borrow.Author.Tests.{not-false, not-true}
use Rattle.clocks.specs.Blocks.{passing}
use Rattle.nths.proofs.Rows.{days_high}
use Rattle.plain.proofs.Filling.{fill_begins, fill_no, fill_yes, fill_ends}
use Rattle.days.specs.Filters.{rule_lists, place_passes}
use Rattle.days.specs.DaySets.{day_set}
use Rattle.days.proofs.Stretches.{by_all}
use Rattle.days.proofs.iterinfo.filtered_days.Goals as goal
use Rattle.days.proofs.iterinfo.filtered_days.Goals.{After-stretch_end-stop, Start}

-- the test and the day set
abbrev test : Start → ℕ → Bool
test s = let a = s.args in place_passes a.asked a.info.now (rule_lists a.rule.now)

abbrev kept : Start → List ℕ
kept s = let a = s.args in day_set a.asked a.info.now (rule_lists a.rule.now) a.from a.to

-- the stretch ends with the tables
in_tables : (c : After-stretch_end-stop) → c.stretch_end-stop.result ≤ 373
in_tables c = omega (arith, c.stretch_end-stop.ensures, days_high c.args.info.now.year.long)

pub loop-place-init : goal.loop-place-init
loop-place-init c =
    let s = c in
    let d = s.args.days.now in
    fill_begins (test (goal.at.loop-place-init c).Start) c.stretch_end-stop.result (kept (goal.at.loop-place-init c).Start) d d 0 0 s.args.from
    (by_all s.args.asked s.args.info.now (rule_lists s.args.rule.now) s.args.from s.args.to
    ∙ ap (λ (n : ℕ). passing (test (goal.at.loop-place-init c).Start) (n - s.args.from) s.args.from) (sym c.stretch_end-stop.ensures))

pub loop-place-preserved-then-is_filtered : goal.loop-place-preserved-then-is_filtered
loop-place-preserved-then-is_filtered c =
    let here = goal.at.loop-place-preserved-then-is_filtered c in
    let e = c in
    let s = e in
    fill_no (test here.Start) e.stretch_end-stop.result (kept here.Start) s.args.days.now c.loop-place.days c.loop-place.count c.loop-place.place
    c.loop-place-test.true (not-true _ (sym c.is_filtered.ensures ∙ c.if-is_filtered.true)) c.loop-place.invariant

pub overflow_cast-days : goal.overflow_cast-days
overflow_cast-days c = search (rules, in_tables (goal.at.overflow_cast-days c).After-stretch_end-stop)

pub offset_bounds-days-count : goal.offset_bounds-days-count
offset_bounds-days-count c = search (rules, in_tables (goal.at.offset_bounds-days-count c).After-stretch_end-stop)

pub bounds-days-count : goal.bounds-days-count
bounds-days-count c = search (rules, in_tables (goal.at.bounds-days-count c).After-stretch_end-stop)

pub loop-place-preserved : goal.loop-place-preserved
loop-place-preserved c =
    let here = goal.at.loop-place-preserved c in
    let e = c in
    let s = e in
    fill_yes (test here.Start) e.stretch_end-stop.result (kept here.Start) s.args.days.now c.loop-place.days c.loop-place.count c.loop-place.place
    c.loop-place-test.true (not-false _ (sym c.is_filtered.ensures ∙ c.if-is_filtered.false)) c.loop-place.invariant

pub returns : goal.returns
returns c =
    let here = goal.at.returns c in
    let s = c in
    let w = fill_ends (test here.Start) c.stretch_end-stop.result (kept here.Start) s.args.days.now c.loop-place.days c.loop-place.count c.loop-place.place c.loop-place-test.false c.loop-place.invariant in record { count = w.0; places = w.1 }
