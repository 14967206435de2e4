-- `numerals::three_go_on` meets its contract.
-- Assumes nothing.
use native.Mathlib.Omega.{arith}
use mathlib.Core.Path.{sym, ◌∙◌}
use borrow.Author.Tests.{leb-true, leb-false, not-true, not-false}
use lib.ListN.{drop}
use Rattle.symbols.specs.Counts.{three}
use Rattle.numerals.specs.Bytes.{DigitAt}
use Rattle.numerals.proofs.ByteLaws.{digit_there}
use Rattle.numerals.proofs.DigitLaws.{no_digit, by_number}
use Rattle.numerals.proofs.CountLaws.{three_full, three_early, three_third}
use Rattle.numerals.proofs.three_go_on.Goals as goal
use Rattle.numerals.proofs.three_go_on.Goals.{Else-not-is_digit_at}

pub returns-then-not-is_digit_at : goal.returns-then-not-is_digit_at
returns-then-not-is_digit_at c =
    let a = c.args in
    no_digit (three a.low) a.count a.value (drop a.place a.text.now) (sym c.is_digit_at.ensures ∙ not-true _ c.if-not-is_digit_at.true-raw)

digit : (c : Else-not-is_digit_at) → DigitAt c.args.text.now c.args.place
digit c = digit_there _ _ (sym c.is_digit_at.ensures ∙ not-false _ c.if-not-is_digit_at.false-raw)

pub returns-then-count-ge3 : goal.returns-then-count-ge3
returns-then-count-ge3 c =
    let a = c.args in
    by_number (three a.low) a.count a.value a.text.now a.place _ (digit (goal.at.returns-then-count-ge3 c).Else-not-is_digit_at)
    (three_full a.low a.count a.value _ (omega arith))

pub returns-then-count-lt2 : goal.returns-then-count-lt2
returns-then-count-lt2 c =
    let a = c.args in
    by_number (three a.low) a.count a.value a.text.now a.place _ (digit (goal.at.returns-then-count-lt2 c).Else-not-is_digit_at)
    (three_early a.low a.count a.value _ (omega arith))

pub with_digit-requires : goal.with_digit-requires
with_digit-requires c = (digit (goal.at.with_digit-requires c).Else-not-is_digit_at, omega arith)

pub returns : goal.returns
returns c =
    let a = c.args in
    by_number (three a.low) a.count a.value a.text.now a.place _ (digit (goal.at.returns c).Else-not-is_digit_at)
    (three_third a.low a.count a.value _ _ (omega arith) (omega arith) (λ h. omega (arith, leb-true)) (λ h. omega (arith, leb-false)))
