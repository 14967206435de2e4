-- `numerals::three_at` meets its contract: what is read from the first place on is what is still to be read, with what is read.
-- Assumes nothing.
use Prim.Native.Nat.{◌-◌}
use native.Mathlib.Omega.{arith}
use mathlib.Core.Path.{◌≡◌, refl, sym, ◌∙◌}
use mathlib.Core.Bool.{false}
use lib.ListN.{drop}
use Rattle.symbols.specs.Readers.{may_take}
use Rattle.symbols.specs.Counts.{three}
use Rattle.numerals.specs.Bytes.{passes}
use Rattle.numerals.proofs.DigitLaws.{Taken, taken, at_first, one_more, at_last}
use Rattle.numerals.proofs.CountLaws.{few_first, few_small, few_more, shown_small}
use Rattle.numerals.proofs.three_at.Goals as goal
use Rattle.numerals.proofs.three_at.Goals.{After-loop-value, In-loop-value}

pub loop-value-init : goal.loop-value-init
loop-value-init c = (at_first _ _ _ (omega arith), few_first _)

pub overflow_sub-place : goal.overflow_sub-place
overflow_sub-place c = omega (arith, c.loop-value.invariant.0.begun)

pub three_go_on-requires : goal.three_go_on-requires
three_go_on-requires c = omega (arith, few_small c.loop-value.invariant.1)

-- the digit that the loop takes
digit : (c : In-loop-value) → (let a = c.args in
    Taken (three a.low) (c.loop-value.place - a.at) c.loop-value.value a.text.now c.loop-value.place)
digit c = taken _ _ _ _ _ (sym c.three_go_on.ensures ∙ c.loop-value-test.true)

pub with_digit-value-requires : goal.with_digit-value-requires
with_digit-value-requires c = ((digit c).digit, omega (arith, few_small c.loop-value.invariant.1))

pub overflow_add-place : goal.overflow_add-place
overflow_add-place c = omega (arith, (digit (goal.at.overflow_add-place c).In-loop-value).digit.inside)

pub loop-value-smaller : goal.loop-value-smaller
loop-value-smaller c = omega (arith, (digit (goal.at.loop-value-smaller c).In-loop-value).digit.inside)

pub loop-value-preserved : goal.loop-value-preserved
loop-value-preserved c =
    let here = goal.at.loop-value-preserved c in
    rw c.with_digit-value.ensures (one_more c.loop-value.invariant.0 (digit here.In-loop-value), few_more _ c.loop-value.invariant.0.begun c.loop-value.invariant.1 (digit here.In-loop-value))

-- where the loop ends no digit may come
none : (c : After-loop-value) → (let a = c.args in
    passes (may_take (three a.low) (c.loop-value.place - a.at) c.loop-value.value) (drop c.loop-value.place a.text.now) ≡ false)
none c = sym c.three_go_on.ensures ∙ c.loop-value-test.false

pub overflow_sub-place-2 : goal.overflow_sub-place-2
overflow_sub-place-2 c = omega (arith, c.loop-value.invariant.0.begun)

pub returns : goal.returns
returns c =
    let here = goal.at.returns c in
    record { value = c.reached.ensures ∙ at_last _ c.loop-value.invariant.0 (none here.After-loop-value) refl; value_bound = shown_small _ _ _ c.reached.ensures (few_small c.loop-value.invariant.1) }
