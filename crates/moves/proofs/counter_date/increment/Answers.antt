-- `moves::counter_date::increment` meets its contract.
-- Assumes nothing.
use mathlib.Core.Path.{◌≡◌, refl, sym, ◌∙◌}
use mathlib.Core.Bool.{true}
use mathlib.Core.Logic.{inl, inr}
use native.Mathlib.Omega.{arith}
use Rattle.moves.specs.Increments.{stands}
use Rattle.moves.proofs.Steps.{is_coarse, is_fine, fits_is, stays, by_period, period_fits}
use Rattle.moves.proofs.counter_date.increment.Goals as goal
use Rattle.moves.proofs.counter_date.increment.Goals.{After-can_move, Else-not-can_move}

-- the guard tells whether the counter stands, and past it the counter does
tested : (c : After-can_move) → let a = c.args in stands a.freq a.interval a.counter ≡ c.can_move.result
tested c = sym (fits_is _ _ _ _ _ (sym c.limit_of-limit.ensures) (is_coarse c.args.freq c.in-Yearly.is).1) ∙ sym c.can_move.ensures

stood : (c : Else-not-can_move) → let a = c.args in stands a.freq a.interval a.counter ≡ true
stood c = tested c.before ∙ c.if-not-can_move.false

pub returns-then-not-can_move : goal.returns-then-not-can_move
returns-then-not-can_move c = stays _ _ _ _ _ (tested (goal.at.returns-then-not-can_move c).After-can_move ∙ c.if-not-can_move.true)

pub next_period-requires : goal.next_period-requires
next_period-requires c =
    let a = c.args in
    period_fits _ _ _ (stood (goal.at.next_period-requires c).Else-not-can_move) _ _ c.limit_of-limit.ensures (is_coarse a.freq c.in-Yearly.is).1
    c.step_of.ensures (omega arith)

pub returns-else-not-can_move : goal.returns-else-not-can_move
returns-else-not-can_move c =
    let kind = is_coarse c.args.freq c.in-Yearly.is in
    c.next_period.ensures
    ∙ by_period _ _ _ _ _ _ _ (stood (goal.at.returns-else-not-can_move c).Else-not-can_move) kind.0 kind.1
    (sym c.step_of.ensures) (sym c.limit_of-limit.ensures)

-- each arm below DAILY has its own grid
pub increment_on-requires : goal.increment_on-requires
increment_on-requires c =
    let e = c.in-Hourly.is in record { grid_of = (rw e refl, omega arith); fine = is_fine _ _ (inl e) }

pub increment_on-requires-in-Minutely : goal.increment_on-requires-in-Minutely
increment_on-requires-in-Minutely c =
    let e = c.in-Minutely.is in record { grid_of = (rw e refl, omega arith); fine = is_fine _ _ (inr (inl e)) }

pub increment_on-requires-in-Secondly : goal.increment_on-requires-in-Secondly
increment_on-requires-in-Secondly c =
    let e = c.in-Secondly.is in record { grid_of = (rw e refl, omega arith); fine = is_fine _ _ (inr (inr e)) }

pub returns-in-Hourly : goal.returns-in-Hourly
returns-in-Hourly c = c.increment_on.ensures

pub returns-in-Minutely : goal.returns-in-Minutely
returns-in-Minutely c = c.increment_on-in-Minutely.ensures

pub returns-in-Secondly : goal.returns-in-Secondly
returns-in-Secondly c = c.increment_on-in-Secondly.ensures
