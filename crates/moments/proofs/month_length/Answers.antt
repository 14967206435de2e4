-- `moments::month_length` meets its contract.
-- Assumes nothing.
use native.Mathlib.Omega.{arith}
use Rattle.calendar.specs.Calendar.{month_length}
use Rattle.moments.proofs.MonthLaws.{length_at, thirty, thirty_one}
use Rattle.moments.proofs.month_length.Goals as goal

pub returns-then-long : goal.returns-then-long
unfolding month_length
returns-then-long c = omega (arith, length_at c.if-long.true c.in-2.is)

pub returns-else-long : goal.returns-else-long
unfolding month_length
returns-else-long c = omega (arith, length_at c.if-long.false c.in-2.is)

pub returns-in-4 : goal.returns-in-4
returns-in-4 c = omega (arith, thirty c.args.long c.args.month c.in-4.is)

pub returns-in_default : goal.returns-in_default
returns-in_default c =
    let a = c.args in
    omega (arith, thirty_one a.long a.month c.requires.0 c.requires.1 c.in_default.in_default-own.rest.0.1 c.in_default.in_default-own.rest.1)
