-- `weeks::yearinfo::week_one` meets its contract.
-- Assumes nothing.
use Rattle.std.proofs.Common.{rules}
use Prim.Native.Nat.{◌≤◌}
use native.Mathlib.Omega.{arith}
use Rattle.calendar.specs.Calendar.{new_year}
use Rattle.calendar.proofs.Years.{new_year_at_most}
use Rattle.weeks.proofs.Numbers.{late, early_is, late_is}
use Rattle.weeks.proofs.yearinfo.week_one.Goals as goal

pub overflow_sub-result : goal.overflow_sub-result
overflow_sub-result c = let e = c.days_before_year-start.ensures in let p = c.days_past-past.ensures in omega (arith, late c.args.year (search rules))

pub overflow_sub-result-else-past-lt4 : goal.overflow_sub-result-else-past-lt4
overflow_sub-result-else-past-lt4 c = let e = c.days_before_year-start.ensures in let p = c.days_past-past.ensures in omega (arith, late c.args.year (search rules))

pub overflow_add-result : goal.overflow_add-result
overflow_add-result c = let e = c.days_before_year-start.ensures in let p = c.days_past-past.ensures in omega (arith, new_year_at_most c.args.year)

pub returns-then-past-lt4 : goal.returns-then-past-lt4
returns-then-past-lt4 c =
    let a = c.args in
    let l : 365 ≤ new_year a.year = late a.year (search rules) in
    rw (c.days_before_year-start.ensures, c.days_past-past.ensures) (early_is a.wkst a.year (omega arith) (let p = c.days_past-past.ensures in omega arith))

pub returns-else-past-lt4 : goal.returns-else-past-lt4
returns-else-past-lt4 c =
    let a = c.args in
    let l : 365 ≤ new_year a.year = late a.year (search rules) in
    rw (c.days_before_year-start.ensures, c.days_past-past.ensures) (late_is a.wkst a.year (omega arith) (let p = c.days_past-past.ensures in omega arith))
