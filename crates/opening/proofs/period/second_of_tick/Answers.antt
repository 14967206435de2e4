-- `opening::period::second_of_tick` meets its contract.
-- Assumes nothing.
use Prim.Native.Nat.{ℕ, ◌*◌, ◌/◌, ◌≤◌}
use mathlib.Core.Path.{◌≡◌, ap}
use native.Mathlib.Nat.{mul-le-mul}
use native.Mathlib.Omega.{arith}
use borrow.Author.Tests.{lt-ltb, le-ltb}
use Rattle.rule.specs.Moves.{ticks}
use Rattle.opening.specs.Opening.{tick_second}
use Rattle.units.proofs.Units.{few_ticks, unit_small, past_ticks, within_ticks}
use Rattle.opening.proofs.period.second_of_tick.Goals as goal
use Rattle.opening.proofs.period.second_of_tick.Goals.{After-unit_of}

-- the second by the unit that was told
second_is : (c : After-unit_of) →
    let a = c.args in
    a.tick * c.unit_of.result ≡ a.tick * (86400 / ticks a.freq)
second_is c = ap (λ (n : ℕ). c.args.tick * n) c.unit_of.ensures

pub returns-then-tick-ge86400 : goal.returns-then-tick-ge86400
unfolding tick_second
returns-then-tick-ge86400 c =
    let a = c.args in
    rw (le-ltb a.tick (ticks a.freq) (omega (arith, few_ticks a.freq)))

pub overflow_mul-second : goal.overflow_mul-second
overflow_mul-second c =
    let a = c.args in
    let t : a.tick ≤ 86400 = omega arith in
    let u : c.unit_of.result ≤ 86400 = omega (arith, c.unit_of.ensures, unit_small a.freq) in
    let p : a.tick * c.unit_of.result ≤ 86400 * 86400 = mul-le-mul t u in
    omega arith

pub returns-then-second-ge86400 : goal.returns-then-second-ge86400
unfolding tick_second
returns-then-second-ge86400 c =
    let here = goal.at.returns-then-second-ge86400 c in
    let u = c in
    let a = u.args in
    rw (le-ltb a.tick (ticks a.freq) (past_ticks a.freq a.tick (omega (arith, second_is here.After-unit_of, c.if-second-ge86400.true))))

pub returns : goal.returns
unfolding tick_second
returns c =
    let here = goal.at.returns c in
    let u = c in
    let a = u.args in
    rw (lt-ltb a.tick (ticks a.freq) (within_ticks a.freq a.tick (omega (arith, second_is here.After-unit_of, c.if-second-ge86400.false))))
    (second_is here.After-unit_of)
