-- `numerals::field_at` meets its contract: what is read from the first place on is what is still to be read, with what is read.
-- Assumes nothing.
use Prim.Native.Nat.{◌-◌}
use native.Mathlib.Omega.{arith}
use mathlib.Core.Path.{◌≡◌, sym, ◌∙◌}
use mathlib.Core.Bool.{false}
use lib.ListN.{drop}
use Rattle.symbols.specs.Readers.{may_take}
use Rattle.symbols.specs.Counts.{field}
use Rattle.numerals.specs.Bytes.{passes}
use Rattle.numerals.proofs.DigitLaws.{Taken, taken, at_first, one_more, at_last}
use Rattle.numerals.proofs.CountLaws.{field_first, field_more, field_whole}
use Rattle.numerals.proofs.field_at.Goals as goal
use Rattle.numerals.proofs.field_at.Goals.{After-loop-value, In-loop-value}

pub loop-value-init : goal.loop-value-init
loop-value-init c = (at_first _ _ _ (omega arith), field_first (omega arith))

pub overflow_sub-place : goal.overflow_sub-place
overflow_sub-place c = omega (arith, c.loop-value.invariant.0.begun)

pub field_goes_on-requires : goal.field_goes_on-requires
field_goes_on-requires c = (omega arith, c.loop-value.invariant.1.small)

-- the digit that the loop takes
digit : (c : In-loop-value) → (let a = c.args in
    Taken (field a.wide a.low a.high) (c.loop-value.place - a.at) c.loop-value.value a.text.now c.loop-value.place)
digit c = taken _ _ _ _ _ (sym c.field_goes_on.ensures ∙ c.loop-value-test.true)

pub with_digit-value-requires : goal.with_digit-value-requires
with_digit-value-requires c = ((digit c).digit, omega (arith, c.loop-value.invariant.1.small))

pub overflow_add-place : goal.overflow_add-place
overflow_add-place c = omega (arith, (digit (goal.at.overflow_add-place c).In-loop-value).digit.inside)

pub loop-value-smaller : goal.loop-value-smaller
loop-value-smaller c = omega (arith, (digit (goal.at.loop-value-smaller c).In-loop-value).digit.inside)

pub loop-value-preserved : goal.loop-value-preserved
loop-value-preserved c =
    let here = goal.at.loop-value-preserved c in
    rw c.with_digit-value.ensures (one_more c.loop-value.invariant.0 (digit here.In-loop-value), field_more _ _ _ (omega arith) c.loop-value.invariant.0.begun (digit here.In-loop-value))

-- where the loop ends no digit may come
none : (c : After-loop-value) → (let a = c.args in
    passes (may_take (field a.wide a.low a.high) (c.loop-value.place - a.at) c.loop-value.value) (drop c.loop-value.place a.text.now) ≡ false)
none c = sym c.field_goes_on.ensures ∙ c.loop-value-test.false

pub overflow_sub-place-2 : goal.overflow_sub-place-2
overflow_sub-place-2 c = omega (arith, c.loop-value.invariant.0.begun)

pub returns : goal.returns
returns c =
    c.reached.ensures ∙ at_last _ c.loop-value.invariant.0 (none (goal.at.returns c).After-loop-value) (field_whole c.loop-value.invariant.1)
