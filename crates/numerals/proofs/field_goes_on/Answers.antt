-- `numerals::field_goes_on` meets its contract.
-- Assumes nothing.
use Prim.Native.Nat.{◌+◌, ◌-◌, ◌*◌, ◌≤◌}
use native.Mathlib.Nat.{mul-le-mul}
use native.Mathlib.Omega.{arith}
use mathlib.Core.Path.{sym, ◌∙◌}
use borrow.Author.Tests.{leb-true, leb-false, not-true, not-false}
use lib.ListN.{drop}
use Rattle.symbols.specs.Counts.{field}
use Rattle.numerals.specs.Bytes.{DigitAt}
use Rattle.numerals.proofs.ByteLaws.{digit_there}
use Rattle.numerals.proofs.DigitLaws.{no_digit, by_number}
use Rattle.numerals.proofs.CountLaws.{ten_is, ten_some, ten_few, field_full, field_high, field_low}
use Rattle.numerals.proofs.field_goes_on.Goals as goal
use Rattle.numerals.proofs.field_goes_on.Goals.{After-with_digit, Else-not-is_digit_at}

pub returns-then-not-is_digit_at : goal.returns-then-not-is_digit_at
returns-then-not-is_digit_at c =
    let a = c.args in
    no_digit (field a.wide a.low a.high) a.count a.value (drop a.place a.text.now)
    (sym c.is_digit_at.ensures ∙ not-true _ c.if-not-is_digit_at.true-raw)

digit : (c : Else-not-is_digit_at) → DigitAt c.args.text.now c.args.place
digit c = digit_there _ _ (sym c.is_digit_at.ensures ∙ not-false _ c.if-not-is_digit_at.false-raw)

pub returns-then-wide-count : goal.returns-then-wide-count
returns-then-wide-count c =
    let a = c.args in
    by_number (field a.wide a.low a.high) a.count a.value a.text.now a.place _ (digit (goal.at.returns-then-wide-count c).Else-not-is_digit_at)
    (field_full a.wide a.low a.high a.count a.value _ (omega arith))

pub with_digit-requires : goal.with_digit-requires
with_digit-requires c = (digit (goal.at.with_digit-requires c).Else-not-is_digit_at, omega arith)

-- the unit is from 1 to 1000, and so the product is small
small : (c : After-with_digit) → (let u = c.pow-unit.result in (c.with_digit.result * u ≤ 99999 * 1000) × (1 ≤ u) × (u ≤ 1000))
small c =
    let a = c.args in
    let u = c.pow-unit.result in
    let d = digit_there c.args.text.now c.args.place (sym c.is_digit_at.ensures ∙ not-false _ c.if-not-is_digit_at.false-raw) in
    let least : 1 ≤ u = omega (arith, ten_some (a.wide - (a.count + 1)), (c.pow-unit.ensures ∙ ten_is (c.args.wide - (c.args.count + 1)))) in
    let most : u ≤ 1000 = omega (arith, ten_few (a.wide - (a.count + 1)) (omega arith), (c.pow-unit.ensures ∙ ten_is (c.args.wide - (c.args.count + 1)))) in
    let number : c.with_digit.result ≤ 99999 = omega (arith, d.most, c.with_digit.ensures) in
    (mul-le-mul number most, least, most)

pub overflow_mul-lowest : goal.overflow_mul-lowest
overflow_mul-lowest c = omega (arith, (small (goal.at.overflow_mul-lowest c).After-with_digit).0)

pub returns-then-high-lowest : goal.returns-then-high-lowest
returns-then-high-lowest c =
    let a = c.args in
    by_number (field a.wide a.low a.high) a.count a.value a.text.now a.place _ (digit (goal.at.returns-then-high-lowest c).Else-not-is_digit_at)
    (field_high a.wide a.low a.high a.count a.value _ _ _ (omega arith) c.with_digit.ensures
    (c.pow-unit.ensures ∙ ten_is (c.args.wide - (c.args.count + 1))) (omega arith))

pub overflow_add-result : goal.overflow_add-result
overflow_add-result c = omega (arith, small (goal.at.overflow_add-result c).After-with_digit)

pub overflow_sub-result : goal.overflow_sub-result
overflow_sub-result c = omega (arith, small (goal.at.overflow_sub-result c).After-with_digit)

pub returns : goal.returns
returns c =
    let a = c.args in
    by_number (field a.wide a.low a.high) a.count a.value a.text.now a.place _ (digit (goal.at.returns c).Else-not-is_digit_at)
    (field_low a.wide a.low a.high a.count a.value _ _ _ _ (omega arith) c.with_digit.ensures (c.pow-unit.ensures ∙ ten_is (c.args.wide - (c.args.count + 1)))
    (omega arith) (λ h. omega (arith, leb-true)) (λ h. omega (arith, leb-false)))
