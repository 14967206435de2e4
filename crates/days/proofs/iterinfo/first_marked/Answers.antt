-- `days::iterinfo::first_marked` meets its contract.
-- Assumes nothing.
use mathlib.Core.Path.{◌≡◌}
use native.Mathlib.Omega.{arith}
use Rattle.days.proofs.Blanks.{search_begins, search_one, search_finds, search_ends}
use Rattle.days.proofs.iterinfo.first_marked.Goals as goal

pub loop-at-init : goal.loop-at-init
loop-at-init c = let a = c.args in search_begins a.marks.now a.from a.to c.requires.0

pub returns-then-marks-at : goal.returns-then-marks-at
returns-then-marks-at c =
    let a = c.args in
    search_finds a.marks.now a.from a.to c.loop-at.at c.loop-at.invariant c.if-marks-at.true

pub loop-at-preserved : goal.loop-at-preserved
loop-at-preserved c =
    let a = c.args in
    search_one a.marks.now a.from a.to c.loop-at.at c.loop-at.invariant c.loop-at-test.true c.if-marks-at.false

pub returns : goal.returns
returns c =
    let a = c.args in
    let q : c.loop-at.at ≡ a.to = omega (arith, c.loop-at-test.false, c.loop-at.invariant.high) in
    rw q at (search_ends a.marks.now a.from a.to c.loop-at.at c.loop-at.invariant (omega (arith, c.loop-at-test.false)))
