-- `validator::entries::pair_slot` meets its contract.
-- Assumes nothing.
use Rattle.std.proofs.Common.{◌≡◌, ◌<◌, refl, sym, ap, ◌∙◌, arith, ℕ, Option, Some}
use Rattle.rule.specs.Lists.{nths, weekdays, slot_of, beside, pair_slot}
use Rattle.rule.specs.Entries.{shift}
use Rattle.rule.proofs.EntryLaws.{slot_high, slot_moved}
use Rattle.validator.proofs.ListLaws.{same_value}
use Rattle.validator.proofs.entries.pair_slot.Goals as goal
use Rattle.validator.proofs.entries.pair_slot.Goals.{In_ok-b}

pub returns-in_err-a : goal.returns-in_err-a
unfolding pair_slot
returns-in_err-a c =
    c.from_residual.ensures
    ∙ ap (λ (s : Option ℕ). beside s (slot_of weekdays c.args.w)) (sym c.in_err-a.was ∙ c.slot_of.ensures ∙ ap (slot_of nths) (same_value _ c.ranges.n))

pub returns-in_err-b : goal.returns-in_err-b
unfolding pair_slot
returns-in_err-b c =
    c.from_residual-in_err-b.ensures
    ∙ ap (beside (Some c.in_ok-a.a)) (sym c.in_err-b.was ∙ c.slot_of-2.ensures ∙ ap (slot_of weekdays) (same_value _ c.ranges.w))
    ∙ ap (λ (s : Option ℕ). beside s (slot_of weekdays c.args.w)) (sym c.in_ok-a.was ∙ c.slot_of.ensures ∙ ap (slot_of nths) (same_value _ c.ranges.n))

-- the slots of n and of the weekday
first : (c : In_ok-b) → Some c.in_ok-a.a ≡ slot_of nths c.args.n
first c = sym c.in_ok-a.was ∙ c.slot_of.ensures ∙ ap (slot_of nths) (same_value _ c.ranges.n)

second : (c : In_ok-b) → Some c.in_ok-b.b ≡ slot_of weekdays c.args.w
second c = sym c.in_ok-b.was ∙ c.slot_of-2.ensures ∙ ap (slot_of weekdays) (same_value _ c.ranges.w)

first_high : (c : In_ok-b) → c.in_ok-a.a < 1000
first_high c =
    slot_high nths (shift c.args.n) c.in_ok-a.a (omega arith) (omega arith)
    (slot_moved nths c.args.n (shift c.args.n) (record { up = refl; fits = c.ranges.n.sfits }) ∙ sym (first c))

second_high : (c : In_ok-b) → c.in_ok-b.b < 1000
second_high c =
    slot_high weekdays (shift c.args.w) c.in_ok-b.b (omega arith) (omega arith)
    (slot_moved weekdays c.args.w (shift c.args.w) (record { up = refl; fits = c.ranges.w.sfits }) ∙ sym (second c))

pub overflow_mul-result : goal.overflow_mul-result
overflow_mul-result c = omega (arith, first_high c)

pub overflow_add-result : goal.overflow_add-result
overflow_add-result c = omega (arith, first_high c, second_high c)

pub returns : goal.returns
unfolding pair_slot
returns c =
    ap (beside (Some c.in_ok-a.a)) (second c)
    ∙ ap (λ (s : Option ℕ). beside s (slot_of weekdays c.args.w)) (first c)
