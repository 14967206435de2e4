-- `validator::entries::slot_at` meets its contract.
-- Assumes nothing.
use native.Mathlib.Omega.{arith}
use borrow.Author.Tests.{le-leb, lt-leb, lt-ltb, le-ltb, eq-eqb, ne_eqb}
use Rattle.rule.specs.Entries.{slot_at}
use Rattle.rule.proofs.EntryLaws.{at_most_one}
use Rattle.validator.proofs.entries.slot_at.Goals as goal

pub returns-then-range-below : goal.returns-then-range-below
unfolding slot_at
returns-then-range-below c = rw (lt-ltb _ _ c.if-up-lt32768.true, lt-leb _ _ c.if-range-below.true)

pub returns-then-up-lt32768 : goal.returns-then-up-lt32768
unfolding slot_at
returns-then-up-lt32768 c = rw (lt-ltb _ _ c.if-up-lt32768.true, le-leb _ _ c.if-range-below.false)

pub returns-then-up-eq32768 : goal.returns-then-up-eq32768
unfolding slot_at
returns-then-up-eq32768 c = rw (le-ltb _ _ c.if-up-lt32768.false, eq-eqb _ _ c.if-up-eq32768.true) c.middle_slot.ensures

pub returns-then-range-above : goal.returns-then-range-above
unfolding slot_at
returns-then-range-above c = rw (le-ltb _ _ c.if-up-lt32768.false, ne_eqb _ _ c.if-up-eq32768.false, lt-leb _ _ c.if-range-above.true)

pub overflow_add-result : goal.overflow_add-result
overflow_add-result c = omega (arith, at_most_one c.args.range)

pub overflow_add-result-2 : goal.overflow_add-result-2
overflow_add-result-2 c = omega (arith, at_most_one c.args.range)

pub returns : goal.returns
unfolding slot_at
returns c =
    rw (le-ltb _ _ c.if-up-lt32768.false, ne_eqb _ _ c.if-up-eq32768.false, le-leb _ _ c.if-range-above.false, c.middle_slots.ensures)
