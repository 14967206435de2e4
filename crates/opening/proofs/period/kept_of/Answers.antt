-- `opening::period::kept_of` meets its contract.
-- Assumes nothing.
use Prim.Native.Nat.{◌*◌, ◌≤◌}
use native.Mathlib.Nat.{mul-le-mul}
use native.Mathlib.Omega.{arith}
use Rattle.positions.proofs.PlaceLaws.{places_fit}
use Rattle.opening.specs.Opening.{kept_count, chosen_over}
use Rattle.opening.proofs.period.kept_of.Goals as goal

pub overflow_mul-all : goal.overflow_mul-all
overflow_mul-all c =
    let f = c.args.frame in
    let p : f.days * f.times ≤ 373 * 86400 = mul-le-mul c.requires.0 c.requires.1 in
    omega arith

pub returns-then-not-positioned : goal.returns-then-not-positioned
unfolding kept_count chosen_over
returns-then-not-positioned c = record { count = rw c.if-not-positioned.true; chosen = rw c.if-not-positioned.true }

pub overflow_cast-result : goal.overflow_cast-result
overflow_cast-result c =
    let a = c.args in
    omega (arith, places_fit a.bysetpos.now (a.frame.days * a.frame.times), c.build_pos_list.ensures.value)

pub returns : goal.returns
unfolding kept_count chosen_over
returns c =
    record { count = rw c.if-not-positioned.false c.build_pos_list.ensures.value; chosen = rw c.if-not-positioned.false c.build_pos_list.ensures.places_after }
