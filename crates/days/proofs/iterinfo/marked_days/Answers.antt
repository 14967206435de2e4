-- `days::iterinfo::marked_days` meets its contract.
-- Assumes nothing.
use Prim.Native.Nat.{ℕ, ◌+◌}
use mathlib.Core.Path.{refl}
use mathlib.Core.Bool.{Bool, false}
use mathlib.Core.List.{List}
use lib.ListN.{get_or, set}
use native.Mathlib.Omega.{arith}
use Rattle.plain.proofs.Filling.{fill_begins, fill_yes, fill_ends}
use Rattle.days.specs.DaySets.{marked_days}
use Rattle.days.proofs.Blanks.{fill_skips}
use Rattle.days.proofs.iterinfo.marked_days.Goals as goal
use Rattle.days.proofs.iterinfo.marked_days.Goals.{Start}

abbrev test : Start → ℕ → Bool
test s = λ i. get_or s.args.marks.now i false

abbrev kept : Start → List ℕ
kept s = marked_days s.args.marks.now s.args.from s.args.end

pub next_marked-place-requires : goal.next_marked-place-requires
next_marked-place-requires c = (omega (arith, c.requires.0), c.requires.1)

pub loop-place-init : goal.loop-place-init
unfolding marked_days
loop-place-init c =
    let here = goal.at.loop-place-init c in
    let s = c in
    let a = s.args in
    let d = a.days.now in
    let f = c.next_marked-place.ensures in (
      fill_skips (test here.Start) a.end (kept here.Start) d d 0 a.from c.next_marked-place.result f.low f.high f.blank
          (fill_begins (test here.Start) a.end (kept here.Start) d d 0 0 a.from refl),
      f.high,
      f.marked,
    )

pub next_marked-place-requires-in-loop-place : goal.next_marked-place-requires-in-loop-place
next_marked-place-requires-in-loop-place c = (omega (arith, c.loop-place-test.true), c.requires.1)

pub loop-place-smaller : goal.loop-place-smaller
loop-place-smaller c = omega (arith, c.next_marked-place-in-loop-place.ensures.low, c.loop-place-test.true)

pub loop-place-preserved : goal.loop-place-preserved
loop-place-preserved c =
    let here = goal.at.loop-place-preserved c in
    let s = c in
    let a = s.args in
    let h = c.loop-place-test.true in
    let f = c.next_marked-place-in-loop-place.ensures in (
      fill_skips (test here.Start) a.end (kept here.Start) a.days.now (set c.loop-place.days c.loop-place.marked c.loop-place.place) (c.loop-place.marked + 1) (c.loop-place.place + 1)
          c.next_marked-place-in-loop-place.result f.low f.high f.blank
          (fill_yes (test here.Start) a.end (kept here.Start) a.days.now c.loop-place.days c.loop-place.marked c.loop-place.place h (c.loop-place.invariant.2 h) c.loop-place.invariant.0),
      f.high,
      f.marked,
    )

pub returns : goal.returns
returns c =
    let here = goal.at.returns c in
    let s = c in
    let a = s.args in
    let w = fill_ends (test here.Start) a.end (kept here.Start) a.days.now c.loop-place.days c.loop-place.marked c.loop-place.place c.loop-place-test.false c.loop-place.invariant.0 in record { count = w.0; places = w.1 }
