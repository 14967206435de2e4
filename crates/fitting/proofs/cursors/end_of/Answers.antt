-- `fitting::cursors::end_of` meets its contract.
-- Assumes nothing.
use Prim.Native.Nat.{ℕ, ◌+◌, ◌-◌, ◌*◌, ◌≤◌, ◌<◌}
use mathlib.Core.Path.{ap, ◌∙◌}
use native.Mathlib.Nat.{mul-le-mul}
use native.Mathlib.Omega.{arith}
use lib.Dec.{leb}
use borrow.Author.Tests.{leb-false}
use Rattle.std.proofs.lemmas.Bool.{or_parts}
use Rattle.fitting.specs.Fitting.{end_in}
use Rattle.units.proofs.Units.{unit_small}
use Rattle.fitting.proofs.cursors.end_of.Goals as goal
use Rattle.fitting.proofs.cursors.end_of.Goals.{After-saturating_sub, After-unit_of, Else-to-tick}

-- behind the guard the numbers are small
small : (c : Else-to-tick) → (c.args.to < 4194304) × (c.args.tick < 86400)
small c =
    let w = or_parts (leb 4194304 c.args.to) (leb 86400 c.args.tick) c.if-to-tick.false in
    (leb-false _ _ w.0, leb-false _ _ w.1)

last_day : (c : After-saturating_sub) → c.saturating_sub.result * 86400 ≤ 4194304 * 86400
last_day c = let s = (small c.before).0 in omega (arith, s, c.saturating_sub.ensures)

last_unit : (c : After-unit_of) → (c.args.tick + 1) * c.unit_of.result ≤ 86400 * 86400
last_unit c =
    let s = (small c.before.before).1 in
    let t : c.args.tick + 1 ≤ 86400 = omega (arith, s) in
    let u : c.unit_of.result ≤ 86400 = omega (arith, c.unit_of.ensures, unit_small c.args.freq) in
    mul-le-mul t u

pub returns-then-to-tick : goal.returns-then-to-tick
unfolding end_in
returns-then-to-tick c = rw c.if-to-tick.true

pub overflow_mul-result : goal.overflow_mul-result
overflow_mul-result c = omega (arith, last_day c)

pub overflow_add-result : goal.overflow_add-result
overflow_add-result c = let s = (small (goal.at.overflow_add-result c).Else-to-tick).1 in omega (arith, s)

pub overflow_mul-result-2 : goal.overflow_mul-result-2
overflow_mul-result-2 c = omega (arith, last_unit c)

pub overflow_add-result-2 : goal.overflow_add-result-2
overflow_add-result-2 c = omega (arith, last_unit c, last_day (goal.at.overflow_add-result-2 c).After-saturating_sub)

pub returns : goal.returns
unfolding end_in
returns c =
    let a = c.args in
    rw c.if-to-tick.false
    (ap (λ (n : ℕ). n * 86400 + (a.tick + 1) * c.unit_of.result) c.saturating_sub.ensures
    ∙ ap (λ (n : ℕ). (a.to - 1) * 86400 + (a.tick + 1) * n) c.unit_of.ensures)
