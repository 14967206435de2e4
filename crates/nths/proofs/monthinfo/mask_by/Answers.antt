-- `nths::monthinfo::mask_by` meets its contract.
-- Assumes nothing.
use Prim.Native.Nat.{◌+◌}
use mathlib.Core.Path.{◌≡◌}
use native.Mathlib.Omega.{arith}
use Rattle.calendar.specs.Calendar.{days_of}
use Rattle.nths.specs.Masks.{nth_at}
use Rattle.nths.proofs.Rows.{days_high}
use Rattle.nths.proofs.MarkLaws.{rows_in, none_through, one_through, one_left_out, left_out, mask_is}
use Rattle.nths.proofs.monthinfo.mask_by.Goals as goal
use Rattle.nths.proofs.monthinfo.mask_by.Goals.{then-has_entry, else-has_entry}

pub loop-weekday-init : goal.loop-weekday-init
loop-weekday-init g c = (omega arith, none_through _ _ _)

pub has_entry-requires : goal.has_entry-requires
has_entry-requires g c =
    let r = rows_in c.args.inyear in
    rw c.rows_of-rows.ensures (omega arith, r.0, r.1)

pub loop-weekday-preserved : goal.loop-weekday-preserved
loop-weekday-preserved g c =
    let a = c.args in
    let l = c.loop-weekday in (
      omega arith,
      elim c.if-has_entry.branch [
        | then-has_entry w ↦ rw w.mask-is (one_through (nth_at a.inyear a.year a.byday.now) a.year.first (days_of a.year.long + 7) l.weekday l.mask _ w.mark_days.ensures l.invariant.1)
        | else-has_entry w ↦ rw w.mask-is (one_left_out (nth_at a.inyear a.year a.byday.now) a.year.first (days_of a.year.long + 7) l.weekday l.mask
            (omega (arith, days_high a.year.long))
            (left_out a.year a.byday.now a.inyear l.weekday (rw c.rows_of-rows.ensures at (c.has_entry.ensures w.if-has_entry.false)))
            l.invariant.1)
      ],
    )

pub returns : goal.returns
returns g c =
    let a = c.args in
    let e : c.loop-weekday.weekday ≡ 7 = omega arith in
    mask_is a.year a.byday.now a.inyear c.loop-weekday.mask (rw e at c.loop-weekday.invariant.1)
