-- `moves::counter_date::next_tick` meets its contract: where a tick is found, the counter is led there.
-- Assumes nothing.
use mathlib.Core.Path.{◌≡◌, sym, ap, ◌∙◌}
use Prim.Native.Nat.{ℕ, ◌≤◌}
use native.Mathlib.Omega.{arith}
use Rattle.rule.specs.Moves.{ticks}
use Rattle.ticks.specs.declared.counter_date.Hit.{Hit}
use Rattle.ticks.specs.Ticks.{tick_on, first_tick}
use Rattle.ticks.proofs.Days.{ticks_fit}
use Rattle.ticks.proofs.Searches.{Hits, hit_is, never_is}
use Rattle.moves.specs.Increments.{ahead, arrive}
use Rattle.moves.proofs.Searches.{arrived, not_arrived}
use Rattle.moves.proofs.counter_date.next_tick.Goals as goal
use Rattle.moves.proofs.counter_date.next_tick.Goals.{In-Some}

-- what was found, where something was
found : (c : In-Some)
    → let a = c.args in
    Hits a.freq a.grid.step a.from.tick a.clock.now c.in-Some.hit
found c =
    hit_is _ _ _ _ (rw (← c.requires.perday_value.0) c.requires.k_bound.2) _ (sym c.in-Some.is ∙ c.find_tick.ensures)

pub counter_ahead-requires-clause-perday_bound : goal.counter_ahead-requires-clause-perday_bound
counter_ahead-requires-clause-perday_bound c =
    let a = c.args in
    let h : Hit = c.in-Some.hit in
    let t : a.grid.perday ≡ ticks a.freq = c.requires.perday_value.0 in
    let most : ticks a.freq ≤ 86400 = ticks_fit a.freq in
    let hits = found c in
    (omega arith, omega arith, omega (arith, hits.few), hits.there ∙ ap (λ (x : ℕ). tick_on x a.grid.step a.from.tick h.periods) (sym t))

pub returns-in-Some : goal.returns-in-Some
returns-in-Some c =
    let a = c.args in
    let n : ℕ = c.in-Some.hit.periods in
    c.in_range.ensures
    ∙ arrived a.freq 3652059 a.grid.step n a.from _ c.requires.perday_value.1
    (c.counter_ahead.ensures ∙ ap (λ (x : ℕ). ahead x a.grid.step a.from n) c.requires.perday_value.0)
    ∙ ap (arrive a.freq a.grid.step a.from) (sym (found (goal.at.returns-in-Some c).In-Some).first)
    ∙ ap (λ (x : ℕ). arrive a.freq a.grid.step a.from (first_tick a.freq a.grid.step a.from.tick a.clock.now x 1)) (sym c.requires.perday_value.0)

pub returns-in-None : goal.returns-in-None
returns-in-None c =
    let a = c.args in
    let t : a.grid.perday ≡ ticks a.freq = c.requires.perday_value.0 in
    let none = never_is _ _ _ _ (rw (← t) c.requires.k_bound.2) (sym c.in-None.is ∙ c.find_tick.ensures) in
    not_arrived a.freq a.grid.step a.from
    ∙ ap (arrive a.freq a.grid.step a.from) (sym none)
    ∙ ap (λ (x : ℕ). arrive a.freq a.grid.step a.from (first_tick a.freq a.grid.step a.from.tick a.clock.now x 1)) (sym t)
