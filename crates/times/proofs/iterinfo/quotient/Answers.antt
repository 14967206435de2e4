-- `times::iterinfo::quotient` meets its contract.
-- Assumes nothing.
use mathlib.Core.Path.{◌≡◌, sym}
use native.Mathlib.Nat.{div-eq_of_lt, div-zero, div-one}
use native.Mathlib.Omega.{arith}
use Rattle.times.proofs.iterinfo.quotient.Goals as goal

pub returns-then-number-count : goal.returns-then-number-count
returns-then-number-count c = sym (div-eq_of_lt (omega arith))

pub returns-then-count-eq0 : goal.returns-then-count-eq0
returns-then-count-eq0 c = let a = c.args in let e : a.count ≡ 0 = omega arith in rw e (sym (div-zero a.number))

pub returns-then-count-eq1 : goal.returns-then-count-eq1
returns-then-count-eq1 c = let a = c.args in let e : a.count ≡ 1 = omega arith in rw e (sym (div-one a.number))
