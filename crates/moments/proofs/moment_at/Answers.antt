-- `moments::moment_at` meets its contract.
-- Assumes nothing.
use native.Mathlib.Omega.{arith}
use Rattle.std.proofs.Common.{rules}
use Rattle.moments.proofs.MomentLaws.{no_date, date_ends, date_from, no_time_lem, date_and_time, not_after}
use Rattle.moments.proofs.moment_at.Goals as goal

pub returns-in_err-date : goal.returns-in_err-date
returns-in_err-date c =
    let stopped = no_date _ _ _ c.in_err-date.ensures in
    search (rules, stopped)

pub time_at-requires : goal.time_at-requires
time_at-requires c = date_ends _ _ _ c.in_ok-date.ensures (omega arith)

pub returns-in_err-time : goal.returns-in_err-time
returns-in_err-time c =
    let stopped = no_time_lem _ _ _ c.in_ok-date.ensures _ c.in_err-time.ensures in
    search (rules, stopped)

-- the instant is in range
pub overflow_mul-result : goal.overflow_mul-result
overflow_mul-result c = omega (arith, not_after _ _ _ c.in_ok-date.ensures _ c.in_ok-time.ensures)

pub overflow_add-result : goal.overflow_add-result
overflow_add-result c = omega (arith, not_after _ _ _ c.in_ok-date.ensures _ c.in_ok-time.ensures)

pub overflow_sub-result : goal.overflow_sub-result
overflow_sub-result c = omega (arith, date_from _ _ _ c.in_ok-date.ensures)

pub returns : goal.returns
returns c = date_and_time _ _ _ c.in_ok-date.ensures _ c.in_ok-time.ensures
