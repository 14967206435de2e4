-- `numerals::with_digit` meets its contract.
-- Assumes nothing.
use native.Mathlib.Omega.{arith}
use Rattle.numerals.proofs.with_digit.Goals as goal

pub returns : goal.returns
returns c = omega arith
