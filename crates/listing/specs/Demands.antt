-- What the promise of `run` means for those who call it: demands 1 and 3, in words of calls.
-- Assumes nothing.
use Rattle.std.specs.Prelude.{ℕ, ◌≤◌, ◌≡◌, ◌↔◌, true, false, List, [], ◌∷◌, ◌++◌, length, take, drop, Some, Ok}
use Rattle.machine.specs.declared.Cause.{Cause}
use Rattle.machine.specs.declared.State.{State}
use Rattle.machine.specs.declared.Fault.{Fault}
use Rattle.machine.specs.declared.Stop.{Stop}
use Rattle.machine.specs.declared.Cursor.{Cursor}
use Rattle.machine.specs.declared.Answer.{Answer}
use Rattle.machine.specs.Rising.{◌∈◌}
use Rattle.machine.specs.Cursors.{WellFormed}
use Rattle.machine.specs.Calls.{beside}
use Rattle.rule.specs.declared.rrule.Rule.{Rule}
use Rattle.rule.specs.Raw.{Raw}
use Rattle.rule.specs.Filling.{checked}
use Rattle.rule.specs.Records.{yielded}
use Rattle.rule.specs.Satisfies.{Satisfies}
use Rattle.rule.specs.Meaning.{RisesFrom}
use Rattle.rule.specs.Run.{periods, fresh_of, run_of}

-- a call that was made: the buffer and the budget that it was given, its answer, and the buffer then
pub record Made : Type 0 where
  pub buffer : List ℕ
  pub budget : ℕ
  pub answer : Answer
  pub after : List ℕ

-- it is as `run` promises, of this record and from this cursor
abbrev pub Promised : Rule → Cursor → Made → Type 0
Promised r c x = beside x.answer x.after ≡ run_of r c x.buffer x.budget

-- calls one after the other, each from the cursor that the one before it answered
abbrev pub Chain : Rule → Cursor → List Made → Type 0
Chain r c [] = Unit {0}
Chain r c (x ∷ xs) = Promised r c x × Chain r x.answer.cursor xs

-- what they handed out, all together, and the cursor that they left
unfoldable pub handed_out : List Made → List ℕ
handed_out [] = []
handed_out (x ∷ xs) = take x.answer.handed x.after ++ handed_out xs

unfoldable pub left_by : Cursor → List Made → Cursor
left_by c [] = c
left_by c (x ∷ xs) = left_by x.answer.cursor xs

-- Demand 1. 20 is given exactly when no accepted check yields the record, 21 exactly when the record is good and the cursor isn't well formed;
-- then the cursor comes back as given, with zero moves and zero handed out, and the buffer is untouched.
abbrev pub DemandOne : Type 0
DemandOne =
    (r : Rule) (c : Cursor) (x : Made) → Promised r c x
    → ((x.answer.stop ≡ Stop.Refused Fault.Record) ↔ (yielded r ≡ false))
    × ((x.answer.stop ≡ Stop.Refused Fault.Cursor) ↔ ((yielded r ≡ true) × (WellFormed (periods r) c → ⊥)))
    × ((fault : Fault) → x.answer.stop ≡ Stop.Refused fault
    → (x.answer ≡ record { stop = Stop.Refused fault; cursor = c; moves = 0; handed = 0 }) × (x.after ≡ x.buffer))

-- A stop without an end has filled its buffer or made every move allowed; no call of the chain is refused.
abbrev pub Stopped : Made → Stop → Type 0
Stopped x Stop.Ended = (cause : Cause) × (x.answer.cursor.state ≡ State.Ended cause)
Stopped x Stop.More = x.answer.handed ≡ length x.after
Stopped x Stop.Limited = x.answer.moves ≡ x.budget
Stopped x (Stop.Refused fault) = ⊥

-- what each call keeps to
pub record Kept (x : Made) : Type 0 where
  pub stopped : Stopped x x.answer.stop
  pub budget : x.answer.moves ≤ x.budget
  pub room : x.answer.handed ≤ length x.buffer
  pub rest : drop x.answer.handed x.after ≡ drop x.answer.handed x.buffer

abbrev pub AllKept : List Made → Type 0
AllKept [] = Unit {0}
AllKept (x ∷ xs) = Kept x × AllKept xs

-- Demand 3, of calls xs from the fresh cursor of a record.
pub record Listing (r : Rule) (xs : List Made) : Type 0 where
  pub each : AllKept xs
  -- the instants strictly rise
  pub rises : RisesFrom 0 (handed_out xs)
  -- they satisfy the rule, and none up to one that is handed out is missing
  pub only : (t : ℕ) → t ∈ handed_out xs → Satisfies r t
  pub all : (t u : ℕ) → u ∈ handed_out xs → Satisfies r t → t ≤ u → t ∈ handed_out xs
  -- an end by COUNT means exactly that many; any other end that none remains
  pub by_count : (left_by (fresh_of r) xs).state ≡ State.Ended Cause.Count → r.count ≡ Some (length (handed_out xs))
  pub none_left : (cause : Cause) → (left_by (fresh_of r) xs).state ≡ State.Ended cause → (cause ≡ Cause.Count → ⊥) → (t : ℕ) → Satisfies r t → t ∈ handed_out xs

abbrev pub DemandThree : Type 0
DemandThree =
    (w : Raw) (r : Rule) → checked w ≡ Ok r → (xs : List Made) → Chain r (fresh_of r) xs → Listing r xs

-- as it was said before request 2026-01, when the check took INTERVAL 0
abbrev pub DemandThreeBefore : Type 0
DemandThreeBefore =
    (w : Raw) (r : Rule) → checked w ≡ Ok r → 1 ≤ w.interval → (xs : List Made) → Chain r (fresh_of r) xs → Listing r xs

-- No calls from the fresh cursor of a good record are ended by Interval.
abbrev pub NeverByInterval : Type 0
NeverByInterval = (r : Rule) → yielded r ≡ true → (xs : List Made) → Chain r (fresh_of r) xs → (left_by (fresh_of r) xs).state ≡ State.Ended Cause.Interval → ⊥
