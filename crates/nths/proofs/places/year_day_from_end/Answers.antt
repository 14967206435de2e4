-- `nths::places::year_day_from_end` meets its contract.
-- Assumes nothing.
use native.Mathlib.Omega.{arith}
use Rattle.nths.proofs.Rows.{days_high, this_year, next_year, this_length, next_length}
use Rattle.nths.proofs.places.year_day_from_end.Goals as goal

pub returns-then-place-length : goal.returns-then-place-length
returns-then-place-length c =
    let a = c.args in
    let e = c.days_of-length.ensures in
    let p = this_year a.long a.place (rw (← e) (omega arith)) in
    let q = this_length a.long a.nextlong a.place (rw (← e) (omega arith)) in
    rw (p, q, e) (omega arith)

pub overflow_add-end : goal.overflow_add-end
overflow_add-end c =
    let a = c.args in
    rw (c.days_of.ensures, c.days_of-length.ensures) (omega (arith, days_high a.long, days_high a.nextlong))

pub returns : goal.returns
returns c =
    let a = c.args in
    let e = c.days_of-length.ensures in
    let f = c.days_of.ensures in
    let p = next_year a.long a.place (rw (← e) (omega arith)) in
    let q = next_length a.long a.nextlong a.place (rw (← e) (omega arith)) in
    rw (p, q) (omega arith)
