-- `days::iterinfo::year_days` meets its contract.
-- Assumes nothing.
use Prim.Native.Nat.{ℕ}
use mathlib.Core.Bool.{Bool}
use mathlib.Core.List.{List}
use mathlib.Core.Path.{refl}
use Rattle.plain.proofs.Filling.{fill_begins, fill_ends}
use Rattle.days.specs.Filters.{yearday_at}
use Rattle.days.specs.DaySets.{year_days}
use Rattle.days.proofs.Keeping.{fill_keeps}
use Rattle.days.proofs.iterinfo.year_days.Goals as goal
use Rattle.days.proofs.iterinfo.year_days.Goals.{Start}

abbrev test : Start → ℕ → Bool
test s = let a = s.args in yearday_at a.info.now.year.long a.info.now.year.nextlong a.rule.now.byyearday

abbrev kept : Start → List ℕ
kept s = let a = s.args in year_days a.info.now.year.long a.info.now.year.nextlong a.rule.now.byyearday a.from a.end

pub loop-place-init : goal.loop-place-init
unfolding year_days
loop-place-init c = let d = c.args.days.now in fill_begins (test c) c.args.end (kept c) d d 0 0 c.args.from refl

pub loop-place-preserved : goal.loop-place-preserved
loop-place-preserved c =
    let here = goal.at.loop-place-preserved c in
    let s = c in
    fill_keeps (test here.Start) s.args.end (kept here.Start) s.args.days.now c.loop-place.days c.loop-place.found c.loop-place.place
    c.is_filtered_by_year_day-out.result _ c.keep-found.result c.loop-place-test.true
    c.is_filtered_by_year_day-out.ensures c.keep-found.ensures.count c.keep-found.ensures.places c.loop-place.invariant

pub returns : goal.returns
returns c =
    let here = goal.at.returns c in
    let s = c in
    let w = fill_ends (test here.Start) s.args.end (kept here.Start) s.args.days.now c.loop-place.days c.loop-place.found c.loop-place.place c.loop-place-test.false c.loop-place.invariant in record { count = w.0; places = w.1 }
