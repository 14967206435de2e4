-- `numerals::signed` meets its contract.
-- Assumes nothing.
use native.Mathlib.Omega.{arith}
use mathlib.Core.Path.{◌∙◌}
use mir.Syntax.{w16}
use mir.ValLaws.{to_z-of_z}
use Rattle.numerals.proofs.SizeLaws.{small, taken_off, off_fits}
use Rattle.numerals.proofs.signed.Goals as goal

pub overflow_sub-result : goal.overflow_sub-result
overflow_sub-result c = off_fits c.args.size (omega arith)

pub returns-then-negative : goal.returns-then-negative
returns-then-negative c =
    let n = c.args.size in
    rw c.if-negative.true (to_z-of_z w16 _ (off_fits n (omega arith)) ∙ taken_off n (omega arith))

pub returns-else-negative : goal.returns-else-negative
returns-else-negative c = rw c.if-negative.false (small c.args.size (omega arith))
