-- `numerals::number_goes_on` meets its contract.
-- Assumes nothing.
use Prim.Native.Nat.{◌+◌, ◌-◌, ◌*◌}
use native.Mathlib.Omega.{arith}
use mathlib.Core.Path.{sym, ◌∙◌}
use borrow.Author.Tests.{leb-true, leb-false, not-true, not-false}
use lib.ListN.{get_or, drop}
use Rattle.symbols.specs.Counts.{up_to}
use Rattle.numerals.specs.Bytes.{DigitAt}
use Rattle.numerals.proofs.TestLaws.{test_is}
use Rattle.numerals.proofs.ByteLaws.{digit_there}
use Rattle.numerals.proofs.DigitLaws.{no_digit, by_number}
use Rattle.numerals.proofs.number_goes_on.Goals as goal
use Rattle.numerals.proofs.number_goes_on.Goals.{Else-not-is_digit_at}

pub returns-then-not-is_digit_at : goal.returns-then-not-is_digit_at
returns-then-not-is_digit_at c =
    let a = c.args in
    no_digit (up_to a.high) 0 a.value (drop a.place a.text.now) (sym c.is_digit_at.ensures ∙ not-true _ c.if-not-is_digit_at.true-raw)

digit : (c : Else-not-is_digit_at) → DigitAt c.args.text.now c.args.place
digit c = digit_there _ _ (sym c.is_digit_at.ensures ∙ not-false _ c.if-not-is_digit_at.false-raw)

pub with_digit-requires : goal.with_digit-requires
with_digit-requires c = (digit c, omega arith)

pub returns : goal.returns
returns c =
    let a = c.args in
    by_number (up_to a.high) 0 a.value a.text.now a.place _ (digit (goal.at.returns c).Else-not-is_digit_at)
    (test_is _ (a.value * 10 + (get_or a.text.now a.place 0 - 48)) a.high (λ h. omega (arith, leb-true)) (λ h. omega (arith, leb-false)))
