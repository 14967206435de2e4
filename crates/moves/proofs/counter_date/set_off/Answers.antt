-- `moves::counter_date::set_off` meets its contract.
-- Assumes nothing.
use mathlib.Core.Path.{refl}
use mathlib.Core.Bool.{false}
use Prim.Native.Nat.{◌+◌, ◌*◌, ◌≤◌, ◌<◌}
use native.Mathlib.Omega.{arith}
use Rattle.moves.proofs.Steps.{skipped_few, skipped_within, set_off_here, set_off_late}
use Rattle.moves.proofs.counter_date.set_off.Goals as goal
use Rattle.moves.proofs.counter_date.set_off.Goals.{After-left_of_day-left}

pub returns-then-passes : goal.returns-then-passes
returns-then-passes c = let a = c.args in set_off_here a.grid.perday a.grid.step a.counter (omega arith) a.passes c.if-passes.true

-- what is left of the day is no more than the day, and on it
few : (c : After-left_of_day-left) → c.left_of_day-left.result ≤ c.args.grid.perday
few c = let a = c.args in rw c.left_of_day-left.ensures (skipped_few a.grid.perday a.grid.step a.counter (omega arith) false)

within : (c : After-left_of_day-left) → let a = c.args in a.counter.tick + c.left_of_day-left.result * a.grid.step < a.grid.perday
within c = let a = c.args in rw c.left_of_day-left.ensures (skipped_within a.grid.perday a.grid.step a.counter (omega arith) false)

pub overflow_add-result : goal.overflow_add-result
overflow_add-result c = omega (arith, few (goal.at.overflow_add-result c).After-left_of_day-left)

pub overflow_mul-result : goal.overflow_mul-result
overflow_mul-result c = omega (arith, within (goal.at.overflow_mul-result c).After-left_of_day-left)

pub overflow_add-result-2 : goal.overflow_add-result-2
overflow_add-result-2 c = omega (arith, within (goal.at.overflow_add-result-2 c).After-left_of_day-left)

pub returns : goal.returns
returns c =
    let a = c.args in
    set_off_late a.grid.perday a.grid.step a.counter (omega arith) a.passes c.left_of_day-left.result _
    c.if-passes.false c.left_of_day-left.ensures refl refl refl
