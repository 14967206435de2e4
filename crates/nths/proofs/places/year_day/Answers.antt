-- `nths::places::year_day` meets its contract.
-- Assumes nothing.
use mathlib.Core.Path.{sym}
use native.Mathlib.Omega.{arith}
use Rattle.nths.proofs.Rows.{days_low, this_year, next_year}
use Rattle.nths.proofs.places.year_day.Goals as goal

pub returns-then-place-length : goal.returns-then-place-length
returns-then-place-length c = sym (this_year c.args.long c.args.place (rw (← c.days_of-length.ensures) (omega arith)))

pub overflow_add-result-2 : goal.overflow_add-result-2
overflow_add-result-2 c = rw c.days_of-length.ensures (omega (arith, days_low c.args.long))

pub returns : goal.returns
returns c =
    let a = c.args in
    let e = c.days_of-length.ensures in
    let p = next_year a.long a.place (rw (← e) (omega arith)) in
    rw (p, e) (omega arith)
