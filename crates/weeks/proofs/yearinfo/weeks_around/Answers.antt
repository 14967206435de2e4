-- `weeks::yearinfo::weeks_around` meets its contract.
-- Assumes nothing.
use Rattle.std.proofs.Common.{rules}
use native.Mathlib.Omega.{arith}
use Rattle.calendar.proofs.Years.{new_year_at_most}
use Rattle.weeks.proofs.Numbers.{first_week, filled, around_from}
use Rattle.weeks.proofs.yearinfo.weeks_around.Goals as goal

pub overflow_add-result : goal.overflow_add-result
overflow_add-result c = omega (arith, new_year_at_most c.args.year)

pub overflow_sub-result : goal.overflow_sub-result
overflow_sub-result c = let s = c in omega (arith, first_week s.args.wkst s.args.year (search rules) (search rules))

pub overflow_sub-result-2 : goal.overflow_sub-result-2
overflow_sub-result-2 c = let s = c in omega (arith, filled s.args.wkst s.args.year (search rules) (search rules))

pub overflow_sub-result-3 : goal.overflow_sub-result-3
overflow_sub-result-3 c = let s = c in omega (arith, filled s.args.wkst s.args.year (search rules) (search rules))

pub overflow_sub-result-4 : goal.overflow_sub-result-4
overflow_sub-result-4 c = let s = c in omega (arith, filled s.args.wkst s.args.year (search rules) (search rules))

pub returns : goal.returns
returns c =
    let a = c.args in
    around_from a.wkst a.year _ _ _ _ _ (search rules) c.days_before_year.ensures c.week_one-before.ensures
    c.week_one-first.ensures c.week_one-second.ensures c.week_one-third.ensures
