-- `moves::counter_date::increment_on` meets its contract.
-- Assumes nothing.
use mathlib.Core.Path.{◌≡◌, refl, sym, ◌∙◌}
use mathlib.Core.Bool.{true}
use Rattle.moves.specs.Increments.{stands}
use Rattle.moves.proofs.Steps.{fits_is, stays, by_tick, tick_fits, search_fits}
use Rattle.moves.proofs.counter_date.increment_on.Goals as goal
use Rattle.moves.proofs.counter_date.increment_on.Goals.{After-can_move, Else-not-can_move}

-- the guard tells whether the counter stands, and past it the counter does
tested : (c : After-can_move) → let a = c.args in stands a.freq a.grid.step a.counter ≡ c.can_move.result
tested c = sym (fits_is _ _ _ _ _ c.requires.fine.1 (sym c.requires.grid_of.0)) ∙ sym c.can_move.ensures

stood : (c : Else-not-can_move) → let a = c.args in stands a.freq a.grid.step a.counter ≡ true
stood c = tested c.before ∙ c.if-not-can_move.false

pub returns-then-not-can_move : goal.returns-then-not-can_move
returns-then-not-can_move c = stays _ _ _ _ _ (tested (goal.at.returns-then-not-can_move c).After-can_move ∙ c.if-not-can_move.true)

pub set_off-from-requires : goal.set_off-from-requires
set_off-from-requires c = tick_fits _ _ _ (stood c) _ _ c.requires.grid_of.0 refl

pub next_tick-requires : goal.next_tick-requires
next_tick-requires c =
    let q = c.requires in record {
      perday_value = (q.grid_of.0, q.fine.1, q.grid_of.1);
      k_bound = search_fits _ _ _ (stood (goal.at.next_tick-requires c).Else-not-can_move) _ _ _ _ q.grid_of.0 q.fine.1 c.set_off-from.ensures;
    }

pub returns : goal.returns
returns c =
    let q = c.requires in
    c.next_tick.ensures
    ∙ by_tick _ _ _ _ _ _ _ _ (stood (goal.at.returns c).Else-not-can_move) q.fine.0 q.grid_of.0 (sym q.fine.2) c.set_off-from.ensures
