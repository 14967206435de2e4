-- `nths::monthinfo::mark_days` meets its contract.
-- Assumes nothing.
use Prim.Native.Nat.{◌+◌, ◌<◌}
use mathlib.Core.Path.{◌≡◌, sym, ◌∙◌}
use native.Mathlib.Omega.{arith}
use Rattle.calendar.specs.Calendar.{days_of}
use Rattle.nths.specs.Masks.{nth_at, day_at, left_at}
use Rattle.nths.specs.Marks.{Marked}
use lib.ListN.{set}
use Rattle.nths.proofs.Rows.{days_high}
use Rattle.nths.proofs.NthLaws.{ends, nth_told}
use Rattle.nths.proofs.MarkLaws.{none_marked, one_marked, all_marked}
use Rattle.nths.proofs.monthinfo.mark_days.Given.{Over}
use Rattle.nths.proofs.monthinfo.mark_days.Goals as goal
use Rattle.nths.proofs.monthinfo.mark_days.Goals.{After-ends-day, After-nth_passes}

pub loop-place-init : goal.loop-place-init
loop-place-init g c =
    let a = c.args in (
      omega arith,
      c.first_place-place.ensures.1,
      none_marked (nth_at a.inyear a.year a.byday.now) a.year.first a.weekday a.mask.now c.first_place-place.result c.told-mask c.first_place-place.ensures.0 c.first_place-place.ensures.1,
    )

-- the place lies in the tables, and what is told of it
in_place : (g : Over) (c : After-ends-day g) → c.loop-place.place < days_of c.args.year.long + 7
in_place g c = let e = c.days_of-place-end.ensures in omega arith

told : (g : Over) (c : After-ends-day g)
    → (c.ends-day.result.0 ≡ day_at c.args.inyear c.args.year c.loop-place.place) × (c.ends-day.result.1 ≡ left_at c.args.inyear c.args.year c.loop-place.place)
told g c = (c.requires.told c.loop-place.place (in_place g c)).1 c.ends-day.result c.ends-day.ensures

pub nth_passes-requires : goal.nth_passes-requires
nth_passes-requires g c =
    let d = (goal.at.nth_passes-requires g c).After-ends-day in
    let t = told g d in
    let r = ends c.args.inyear c.args.year c.loop-place.place (in_place g d) in
    (c.requires.weekday, omega arith, omega arith, omega arith, omega arith)

-- one place more is marked
marked : (g : Over) (c : After-nth_passes g)
    → Marked (nth_at c.args.inyear c.args.year c.args.byday.now) c.args.year.first c.args.weekday (c.loop-place.place + 7) c.args.mask.now
    (set c.loop-place.mask c.loop-place.place c.nth_passes.result)
marked g c =
    let a = c.args in
    let d = c.before in
    let t = told g d in
    one_marked (nth_at a.inyear a.year a.byday.now) a.year.first a.weekday a.mask.now c.loop-place.place c.loop-place.mask c.nth_passes.result
    (omega (arith, in_place g d, days_high a.year.long)) c.loop-place.invariant.1
    (rw c.nth_passes.ensures (nth_told a.year a.byday.now c.loop-place.place a.inyear a.weekday c.ends-day.result.0 c.ends-day.result.1 (in_place g d) (sym c.loop-place.invariant.1) t.0 t.1))
    c.loop-place.invariant.2

pub loop-place-preserved : goal.loop-place-preserved
loop-place-preserved g c = (omega arith, omega arith, marked g (goal.at.loop-place-preserved g c).After-nth_passes)

pub returns : goal.returns
returns g c =
    let a = c.args in
    let e = c.days_of-place-end.ensures in
    all_marked (nth_at a.inyear a.year a.byday.now) a.year.first a.weekday a.mask.now (days_of a.year.long + 7) c.loop-place.place c.loop-place.mask (omega arith) (omega arith) c.loop-place.invariant.1 c.loop-place.invariant.2

pub returns-2 : goal.returns-2
returns-2 g c =
    let a = c.args in
    let e = c.days_of-place-end.ensures in
    all_marked (nth_at a.inyear a.year a.byday.now) a.year.first a.weekday a.mask.now (days_of a.year.long + 7) (c.loop-place.place + 7) _ (omega arith) (omega arith) (omega arith)
    (marked g (goal.at.returns-2 g c).After-nth_passes)
