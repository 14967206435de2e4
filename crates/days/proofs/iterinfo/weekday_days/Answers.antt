-- `days::iterinfo::weekday_days` meets its contract. The loop's invariant: what is filled in so far, and the weekday that is carried.
-- Assumes nothing.
use Prim.Native.Nat.{ℕ, ◌+◌, ◌%◌}
use mathlib.Core.Path.{◌≡◌, refl, ◌∙◌}
use mathlib.Core.Bool.{Bool, true, false, not, ◌||◌, ◌&&◌}
use mathlib.Core.List.{List}
use lib.ListN.{get_or}
use native.Mathlib.Omega.{arith}
use Rattle.calendar.specs.Calendar.{weekday}
use Rattle.plain.proofs.Filling.{fill_begins, fill_ends}
use Rattle.days.specs.Filters.{weekday_at}
use Rattle.days.specs.DaySets.{weekday_days}
use Rattle.days.proofs.FilterLaws.{weekday_read}
use Rattle.days.proofs.Keeping.{fill_keeps}
use Rattle.days.proofs.iterinfo.weekday_days.Goals as goal
use Rattle.days.proofs.iterinfo.weekday_days.Goals.{Start}

abbrev test : Start → ℕ → Bool
test s = let a = s.args in weekday_at a.nth a.info.now.year.first a.rule.now.byday a.info.now.nths

abbrev kept : Start → List ℕ
kept s = let a = s.args in weekday_days a.nth a.info.now.year.first a.rule.now.byday a.info.now.nths a.from a.end

-- the day after is of the weekday after
day_after : (first place today next : ℕ) → today ≡ weekday (first + place) → next ≡ (today + 1) % 7 → next ≡ weekday (first + (place + 1))
day_after first place today next e n = omega arith

-- the test of the weekday in hand is the test of its place
tested : (nth : Bool) (first : ℕ) (byday nths : List Bool) (place today : ℕ) (r : Bool) → today ≡ weekday (first + place)
    → r ≡ not (get_or byday (371 + today) false || (nth && get_or nths place false)) → r ≡ not (weekday_at nth first byday nths place)
tested nth first byday nths place today r e t = t ∙ weekday_read true nth first byday nths place today refl e

pub loop-place-init : goal.loop-place-init
unfolding weekday_days
loop-place-init c =
    let here = goal.at.loop-place-init c in
    let s = c in
    let d = s.args.days.now in
    (fill_begins (test here.Start) s.args.end (kept here.Start) d d 0 0 s.args.from refl, c.weekday_at-weekday.ensures)

pub is_filtered_on-out-requires : goal.is_filtered_on-out-requires
is_filtered_on-out-requires c =
    let e = c.loop-place.invariant.1 in
    (omega arith, omega (arith, c.loop-place-test.true, c.requires))

pub next_weekday-weekday-requires : goal.next_weekday-weekday-requires
next_weekday-weekday-requires c = let e = c.loop-place.invariant.1 in omega arith

pub loop-place-preserved : goal.loop-place-preserved
loop-place-preserved c =
    let here = goal.at.loop-place-preserved c in
    let s = c in
    let a = s.args in (
      fill_keeps (test here.Start) a.end (kept here.Start) a.days.now c.loop-place.days c.loop-place.passed c.loop-place.place c.is_filtered_on-out.result _ c.keep-passed.result
          c.loop-place-test.true
          (tested a.nth a.info.now.year.first a.rule.now.byday a.info.now.nths c.loop-place.place c.loop-place.weekday c.is_filtered_on-out.result c.loop-place.invariant.1 c.is_filtered_on-out.ensures)
          c.keep-passed.ensures.count c.keep-passed.ensures.places c.loop-place.invariant.0,
      day_after a.info.now.year.first c.loop-place.place c.loop-place.weekday c.next_weekday-weekday.result c.loop-place.invariant.1 c.next_weekday-weekday.ensures,
    )

pub returns : goal.returns
returns c =
    let here = goal.at.returns c in
    let s = c in
    let w = fill_ends (test here.Start) s.args.end (kept here.Start) s.args.days.now c.loop-place.days c.loop-place.passed c.loop-place.place c.loop-place-test.false c.loop-place.invariant.0 in record { count = w.0; places = w.1 }
