-- `nths::monthinfo::has_entry` meets its contract.
-- Assumes nothing.
use native.Mathlib.Omega.{arith}
use Rattle.nths.proofs.MarkLaws.{no_rows, one_row_more, all_rows}
use Rattle.nths.proofs.monthinfo.has_entry.Goals as goal

pub loop-row-init : goal.loop-row-init
loop-row-init c = (omega arith, omega arith, λ e. no_rows c.args.byday.now c.args.weekday c.args.from)

pub loop-row-preserved : goal.loop-row-preserved
loop-row-preserved c =
    let a = c.args in
    (omega arith, omega arith, one_row_more a.byday.now a.weekday a.from c.loop-row.row c.loop-row.some c.loop-row.invariant.2)

pub returns : goal.returns
returns c =
    let a = c.args in
    λ e. all_rows a.byday.now a.weekday a.from c.loop-row.row a.to (omega arith) (c.loop-row.invariant.2 e)
