-- `plain::iterinfo::plain_days` meets its contract.
-- Assumes nothing.
use Rattle.std.proofs.Common.{rules}
use Prim.Native.Nat.{ℕ, ◌+◌, ◌-◌, ◌≤◌, min}
use mathlib.Core.Path.{refl, sym, ap}
use mathlib.Core.Bool.{true}
use mathlib.Core.List.{List}
use native.Mathlib.Omega.{arith}
use Rattle.calendar.specs.Calendar.{days_of}
use Rattle.clocks.specs.Blocks.{passing}
use Rattle.nths.proofs.Rows.{days_high}
use Rattle.plain.specs.DaySets.{all_days}
use Rattle.plain.proofs.Filling.{fill_begins, fill_yes, fill_ends}
use Rattle.plain.proofs.iterinfo.plain_days.Goals as goal
use Rattle.plain.proofs.iterinfo.plain_days.Goals.{After-stretch_end-end, Start}

abbrev all : Start → List ℕ
all s = let a = s.args in all_days a.from (min a.to (days_of a.long + 7))

-- the stretch ends with the tables
in_tables : (c : After-stretch_end-end) → c.stretch_end-end.result ≤ 373
in_tables c = omega (arith, c.stretch_end-end.ensures, days_high c.args.long)

pub loop-place-init : goal.loop-place-init
unfolding all_days
loop-place-init c =
    let a = c.args in
    fill_begins (λ _. true) c.stretch_end-end.result (all (goal.at.loop-place-init c).Start) a.days.now a.days.now 0 0 a.from
    (ap (λ (n : ℕ). passing (λ _. true) (n - a.from) a.from) (sym c.stretch_end-end.ensures))

pub overflow_cast-days : goal.overflow_cast-days
overflow_cast-days c = search (rules, in_tables (goal.at.overflow_cast-days c).After-stretch_end-end)

pub offset_bounds-days-written : goal.offset_bounds-days-written
offset_bounds-days-written c = search (rules, in_tables (goal.at.offset_bounds-days-written c).After-stretch_end-end)

pub bounds-days-written : goal.bounds-days-written
bounds-days-written c = search (rules, in_tables (goal.at.bounds-days-written c).After-stretch_end-end)

pub loop-place-preserved : goal.loop-place-preserved
loop-place-preserved c =
    let here = goal.at.loop-place-preserved c in
    let e = c in
    fill_yes (λ _. true) e.stretch_end-end.result (all here.Start) e.args.days.now c.loop-place.days c.loop-place.written c.loop-place.place
    c.loop-place-test.true refl c.loop-place.invariant

pub returns : goal.returns
returns c =
    let here = goal.at.returns c in
    let e = c in
    let w = fill_ends (λ _. true) e.stretch_end-end.result (all here.Start) e.args.days.now c.loop-place.days c.loop-place.written c.loop-place.place
    c.loop-place-test.false c.loop-place.invariant in record { count = w.0; places = w.1 }
