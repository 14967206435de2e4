-- What is claimed of the rule's definitions; proofs/ has a proof of each claim, under the same name in small letters.
-- Assumes nothing.
use Rattle.std.specs.Prelude.{ℕ, ◌<◌, ◌≡◌, ◌↔◌, true, false, not, ◌&&◌, map, ltb, ℤ, Some, Ok, Err}
use Rattle.std.specs.Int.Signed.{lt_z}
use Rattle.rule.specs.declared.rrule.Range.{Range}
use Rattle.machine.specs.Rising.{Rises}
use Rattle.rule.specs.declared.rrule.Refusal.{Refusal}
use Rattle.rule.specs.declared.rrule.Rule.{Rule}
use Rattle.rule.specs.Lists.{slots, slot_of, pair_slot}
use Rattle.rule.specs.Raw.{Raw}
use Rattle.rule.specs.Refusals.{refusal_number, refusals, pair_below, applies, verdict}
use Rattle.rule.specs.Filling.{given, fill, Yields}
use Rattle.rule.specs.Records.{value_of, as_raw, yielded, breaks_no_row, is_unfilled, Sized}

-- A slot's value has that slot, and a value that has a slot is that slot's value.
abbrev pub SlotOfItsValue : Type 0
SlotOfItsValue = (g : Range) (i : ℕ) → i < slots g → slot_of g (value_of g i) ≡ Some i

abbrev pub ValueOfItsSlot : Type 0
ValueOfItsSlot = (g : Range) (v : ℤ) (i : ℕ) → slot_of g v ≡ Some i → value_of g i ≡ v

-- Of two values in a range, one is below the other exactly when its slot is below the other's; likewise of BYDAY's pairs. So a list that
-- rises strictly (refusal 6) is one whose slots do.
abbrev pub SlotOrder : Type 0
SlotOrder = (g : Range) (a b : ℤ) (i j : ℕ) → slot_of g a ≡ Some i → slot_of g b ≡ Some j → lt_z a b ≡ ltb i j

abbrev pub PairOrder : Type 0
PairOrder = (n w m v : ℤ) (i j : ℕ) → pair_slot n w ≡ Some i → pair_slot m v ≡ Some j → pair_below n w m v ≡ ltb i j

-- The refusals stand in the order of their numbers, from 1 on and below 20, where a run's begin.
abbrev pub RefusalsRise : Type 0
RefusalsRise = Rises 1 (map refusal_number refusals) 20

-- The verdict is a refusal exactly when that one applies and none of a lower number does; the rule is accepted exactly when none applies.
abbrev pub LowestGiven : Type 0
LowestGiven = (w : Raw) (n : Refusal)
    → (verdict w ≡ Err n) ↔ ((applies n w ≡ true) × ((m : Refusal) → refusal_number m < refusal_number n → applies m w ≡ false))

abbrev pub NoneGiven : Type 0
NoneGiven = (w : Raw) → (verdict w ≡ Ok tt) ↔ ((n : Refusal) → applies n w ≡ false)

-- A rule that the check accepts is read back from the sets that it gives: they lose nothing of it.
abbrev pub RuleReadBack : Type 0
RuleReadBack = (w : Raw) → verdict w ≡ Ok tt → as_raw (given w) ≡ w

-- Filling in twice is filling in once.
abbrev pub FillOnce : Type 0
FillOnce = (r : Rule) → fill (fill r) ≡ fill r

-- What refusal 20 asks of a record is asked of its sets: the rows that it can break, and whether filling in would change it.
abbrev pub RecordsComputed : Type 0
RecordsComputed = (r : Rule) → Sized r → (breaks_no_row r && not (is_unfilled r)) ≡ yielded r

-- Refusal 20 is given exactly when no raw rule's accepted check yields the record.
abbrev pub GoodRecords : Type 0
GoodRecords = (r : Rule) → (yielded r ≡ true) ↔ ((w : Raw) × Yields w r)
