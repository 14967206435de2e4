-- `ticks::counter_date::find_tick` meets its contract. The invariant: the tick is that of the period before, and the search goes on from here.
-- Assumes nothing.
use mathlib.Core.Path.{◌≡◌, sym, ap, ◌∙◌}
use Prim.Native.Nat.{ℕ, ◌+◌, ◌-◌, ◌%◌}
use Rattle.std.specs.Prelude.{Some}
use native.Mathlib.Omega.{arith}
use Rattle.machine.specs.Given.{Move, Move.To, Move.NoTick}
use Rattle.ticks.specs.Ticks.{tick_is_in, tick_on, first_tick, found_by, next_tick}
use Rattle.ticks.proofs.Days.{tick_on_lem}
use Rattle.ticks.proofs.Searches.{passes_at, hit, miss, done, next_from, next_none}
use Rattle.ticks.proofs.counter_date.find_tick.Goals as goal
use Rattle.ticks.proofs.counter_date.find_tick.Goals.{After-tick_after-at, After-tick_passes, At-loop-periods}

pub returns-then-perday-tick : goal.returns-then-perday-tick
returns-then-perday-tick c =
    let a = c.args in
    next_none a.freq a.interval a.tick a.clock.now (rw (← c.ticks_of-perday.ensures) (omega arith))

-- after the step the tick is that of the period in hand
stepped : (c : After-tick_after-at)
    → let a = c.args in
    c.tick_after-at.result ≡ tick_on c.ticks_of-perday.result a.interval a.tick c.loop-periods.periods
stepped c =
    let a = c.args in
    let p : ℕ = c.ticks_of-perday.result in
    let s : c.loop-periods.periods - 1 + 1 ≡ c.loop-periods.periods = omega arith in
    c.tick_after-at.ensures
    ∙ ap (λ (x : ℕ). (x + c.hop_of-hop.result) % p) c.loop-periods.invariant.0
    ∙ ap (λ (x : ℕ). (tick_on p a.interval a.tick (c.loop-periods.periods - 1) + x) % p) c.hop_of-hop.ensures
    ∙ tick_on_lem p a.interval a.tick (c.loop-periods.periods - 1)
    ∙ ap (tick_on p a.interval a.tick) s

tested : (c : After-tick_passes)
    → let a = c.args in
    passes_at a.freq a.interval a.tick a.clock.now c.loop-periods.periods ≡ c.tick_passes.result
tested c =
    let a = c.args in
    ap (λ (x : ℕ). tick_is_in a.freq a.clock.now x)
    (ap (λ (x : ℕ). tick_on x a.interval a.tick c.loop-periods.periods) (sym c.ticks_of-perday.ensures) ∙ sym (stepped c.before))
    ∙ sym c.tick_passes.ensures

-- what the whole search finds, by what is left of it
found : (c : At-loop-periods) (v : Move)
    → let a = c.args in
    first_tick a.freq a.interval a.tick a.clock.now (c.ticks_of-perday.result + 1 - c.loop-periods.periods) c.loop-periods.periods ≡ v
    → found_by c.ticks_of-perday.result a.interval a.tick v ≡ next_tick a.freq a.interval a.tick a.clock.now
found c v e =
    let a = c.args in
    let p : ℕ = c.ticks_of-perday.result in
    ap (found_by p a.interval a.tick) (sym (c.loop-periods.invariant.1 ∙ e))
    ∙ ap (λ (x : ℕ). found_by x a.interval a.tick (first_tick a.freq a.interval a.tick a.clock.now x 1)) c.ticks_of-perday.ensures
    ∙ next_from a.freq a.interval a.tick a.clock.now (rw (← c.ticks_of-perday.ensures) (omega arith))

pub returns-then-tick_passes : goal.returns-then-tick_passes
returns-then-tick_passes c =
    let here = goal.at.returns-then-tick_passes c in
    let n : ℕ = c.loop-periods.periods in
    ap (λ (t : ℕ). Some (record { periods = n; tick = t })) (stepped here.After-tick_after-at)
    ∙ found here.At-loop-periods (To n) (hit _ _ _ _ _ _ (omega arith) (tested here.After-tick_passes ∙ c.if-tick_passes.true))

pub loop-periods-preserved : goal.loop-periods-preserved
loop-periods-preserved c =
    let here = goal.at.loop-periods-preserved c in
    let a = c.args in
    let s : c.loop-periods.periods ≡ c.loop-periods.periods + 1 - 1 = omega arith in (
      stepped here.After-tick_after-at ∙ ap (tick_on c.ticks_of-perday.result a.interval a.tick) s,
      c.loop-periods.invariant.1 ∙ miss _ _ _ _ _ _ (omega arith) (tested here.After-tick_passes ∙ c.if-tick_passes.false),
    )

pub returns : goal.returns
returns c = found (goal.at.returns c).At-loop-periods NoTick (done _ _ _ _ _ _ (omega arith))
