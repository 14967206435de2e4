-- `weeks::yearinfo::week_no_mask` meets its contract.
-- Assumes nothing.
use mathlib.Core.Path.{◌≡◌, sym, ◌∙◌}
use mathlib.Core.Bool.{true}
use native.Mathlib.Omega.{arith}
use Rattle.weeks.specs.Weeks.{has_mask}
use Rattle.weeks.proofs.Numbers.{longest, counted}
use Rattle.weeks.proofs.Masks.{Asked, asked, no_mask_lem, none_done, skip_week, mark_week, all_done}
use Rattle.weeks.proofs.yearinfo.week_no_mask.Goals as goal
use Rattle.weeks.proofs.yearinfo.week_no_mask.Goals.{Else-not-has_mask}

pub returns-then-not-has_mask : goal.returns-then-not-has_mask
returns-then-not-has_mask c =
    let a = c.args in
    no_mask_lem a.wkst a.weeknos.now a.year (sym c.has_mask.ensures ∙ c.if-not-has_mask.true)

-- behind the first test there is a mask
has : (c : Else-not-has_mask) → has_mask c.args.wkst c.args.year ≡ true
has c = sym c.has_mask.ensures ∙ c.if-not-has_mask.false

pub weeks_around-weeks-requires : goal.weeks_around-weeks-requires
weeks_around-weeks-requires c =
    let a = c.args in
    let h : Asked a.wkst a.year = asked a.wkst a.year (has c) in
    (h.start, h.low, h.high)

pub loop-week-init : goal.loop-week-init
loop-week-init c =
    let a = c.args in
    (omega arith, none_done a.wkst a.weeknos.now a.year c.weeks_around-weeks.result.skipped)

pub week_passes-requires : goal.week_passes-requires
week_passes-requires c =
    let b = c in
    let a = b.args in
    let h : Asked a.wkst a.year = asked a.wkst a.year (has (goal.at.week_passes-requires c).Else-not-has_mask) in
    (rw b.weeks_around-weeks.ensures (counted a.wkst a.year h.start h.low), omega arith)

pub loop-week-preserved-then-not-week_passes : goal.loop-week-preserved-then-not-week_passes
loop-week-preserved-then-not-week_passes c =
    let here = goal.at.loop-week-preserved-then-not-week_passes c in
    let l = c in
    let b = l in
    let a = b.args in (
      omega arith,
      skip_week a.wkst a.weeknos.now a.year b.weeks_around-weeks.result b.weeks_around-weeks.ensures (has here.Else-not-has_mask) l.loop-week.week l.loop-week.mask
          (sym c.week_passes.ensures ∙ c.if-not-week_passes.true) l.loop-week.invariant.1,
    )

pub mark-requires : goal.mark-requires
mark-requires c =
    let l = c in
    (omega arith, omega (arith, longest l.args.year))

pub loop-week-preserved : goal.loop-week-preserved
loop-week-preserved c =
    let here = goal.at.loop-week-preserved c in
    let e = c in
    let l = e in
    let b = l in
    let a = b.args in (
      omega arith,
      mark_week a.wkst a.weeknos.now a.year b.weeks_around-weeks.result b.weeks_around-weeks.ensures (has here.Else-not-has_mask) l.loop-week.week _ _
          l.loop-week.mask _ (sym e.week_passes.ensures ∙ e.if-not-week_passes.false) l.loop-week.invariant.1 (omega arith)
          (omega arith)
          c.mark.ensures,
    )

pub returns : goal.returns
returns c =
    let b = c in
    let a = b.args in
    all_done a.wkst a.weeknos.now a.year b.weeks_around-weeks.result b.weeks_around-weeks.ensures (has (goal.at.returns c).Else-not-has_mask) c.loop-week.week
    c.loop-week.mask (omega arith) c.loop-week.invariant.1
