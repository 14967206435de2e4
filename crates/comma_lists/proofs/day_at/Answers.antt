-- `comma_lists::day_at` meets its contract.
-- Assumes nothing.
use Rattle.std.proofs.Common.{rules}
use native.Mathlib.Omega.{arith}
use Rattle.numerals.proofs.SizeLaws.{small}
use Rattle.comma_lists.proofs.DayLaws.{weekday_small, no_number, number_ends, no_weekday, whole_day}
use Rattle.comma_lists.proofs.day_at.Goals as goal

pub returns-in_err-nth : goal.returns-in_err-nth
returns-in_err-nth c =
    let stopped = no_number _ _ _ c.in_err-nth.ensures in
    search (rules, stopped)

pub weekday_at-requires : goal.weekday_at-requires
weekday_at-requires c = number_ends _ _ _ c.in_ok-nth.ensures (omega arith)

pub returns-in_err-weekday : goal.returns-in_err-weekday
returns-in_err-weekday c =
    let stopped = no_weekday _ _ _ c.in_ok-nth.ensures (omega arith) _ c.in_err-weekday.ensures in
    search (rules, stopped)

pub overflow_cast-result : goal.overflow_cast-result
overflow_cast-result c = record { sfits = omega (arith, weekday_small _ _ c.in_ok-weekday.ensures) }

pub returns : goal.returns
returns c =
    whole_day _ _ _ c.in_ok-nth.ensures (omega arith) _ c.in_ok-weekday.ensures _ _ (search rules) (small _ (omega (arith, weekday_small _ _ c.in_ok-weekday.ensures)))
