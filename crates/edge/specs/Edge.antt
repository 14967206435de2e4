-- What C is answered, and what it finds in the bytes that it lent. A refused call leaves every byte and every slot as it was.
-- Assumes nothing.
use Rattle.std.specs.Prelude.{ℕ, Bool, true, false, not, List, eqb, length, if◌then◌else◌, Option, Some, None, Ok, Err}
use Rattle.machine.specs.declared.Stop.{Stop}
use Rattle.machine.specs.declared.Cursor.{Cursor}
use Rattle.machine.specs.declared.Answer.{Answer}
use Rattle.machine.specs.Faults.{fault_number}
use Rattle.machine.specs.Calls.{Answered}
use Rattle.rule.specs.declared.rrule.Rule.{Rule}
use Rattle.rule.specs.Raw.{Raw}
use Rattle.rule.specs.Refusals.{refusal_number}
use Rattle.rule.specs.Filling.{Checked, checked}
use Rattle.rule.specs.Records.{yielded}
use Rattle.rule.specs.Run.{fresh_of, run_of}
use Rattle.edge.specs.Layout.{record_length, encode_record, decode_record, cursor_length, state_number}
use Rattle.edge.specs.Layout.{encode_cursor, decode_cursor}

-- a call's number, with the bytes that it leaves
pub record Said : Type 0 where
  pub number : ℕ
  pub bytes : List ℕ

abbrev pub said : ℕ → List ℕ → Said
said number bytes = record { number = number; bytes = bytes }

-- The check: the number of the refusal; where the rule is accepted, 20 if the bytes that the record is to be written to have another length; else 0 and
-- the record's bytes.
abbrev pub said_of : Checked → List ℕ → Said
said_of (Err refusal) bytes = said (refusal_number refusal) bytes
said_of (Ok r) bytes = if eqb (length bytes) record_length then said 0 (encode_record r) else said 20 bytes

unfoldable pub check_says : Raw → List ℕ → Said
check_says w bytes = said_of (checked w) bytes

-- The fresh cursor: 20 where the record's bytes hold none that an accepted check yields, then 21 where the cursor's bytes have another length.
abbrev pub fresh_from : Option Rule → List ℕ → Said
fresh_from None bytes = said 20 bytes
fresh_from (Some r) bytes =
    if not (yielded r) then said 20 bytes
    else if not (eqb (length bytes) cursor_length) then said 21 bytes
    else said 0 (encode_cursor (fresh_of r))

unfoldable pub fresh_says : (rulebytes cursorbytes : List ℕ) → Said
fresh_says rulebytes cursorbytes = fresh_from (decode_record rulebytes) cursorbytes

-- What a run shows: its stop's number, the cursor's bytes, the whole buffer, the moves made, the count handed out, the cause's number (0 where running).
pub record Shown : Type 0 where
  pub stop : ℕ
  pub cursor : List ℕ
  pub buffer : List ℕ
  pub moves : ℕ
  pub handed : ℕ
  pub cause : ℕ

abbrev pub shown : ℕ → List ℕ → List ℕ → (moves handed cause : ℕ) → Shown
shown stop cursor buffer moves handed cause =
    record { stop = stop; cursor = cursor; buffer = buffer; moves = moves; handed = handed; cause = cause }

-- 100 More, 101 Limited, 102 Ended: no number of a refusal. A refused run's is the number of the refusal.
abbrev pub stop_number : Stop → ℕ
stop_number Stop.More = 100
stop_number Stop.Limited = 101
stop_number Stop.Ended = 102
stop_number (Stop.Refused fault) = fault_number fault

abbrev pub is_refused : Stop → Bool
is_refused Stop.More = false
is_refused Stop.Limited = false
is_refused Stop.Ended = false
is_refused (Stop.Refused fault) = true

-- a refused run shows zero moves and zero handed out, and leaves cursor and buffer as they were
abbrev pub refused_shows : ℕ → (cursor buffer : List ℕ) → Shown
refused_shows number cursor buffer = shown number cursor buffer 0 0 0

-- any other run leaves its cursor in the bytes
abbrev pub answer_shows : Answer → List ℕ → Shown
answer_shows a buffer = shown (stop_number a.stop) (encode_cursor a.cursor) buffer a.moves a.handed (state_number a.cursor.state)

abbrev pub shows : Answered ℕ → (cursor : List ℕ) → Shown
shows a cursor =
    if is_refused a.answer.stop then refused_shows (stop_number a.answer.stop) cursor a.buffer
    else answer_shows a.answer a.buffer

-- The run: bytes that hold no record are refused with 20, bytes that hold no cursor with 21 if the record is good; the rest is the run's.
abbrev pub unreadable : Bool → ℕ
unreadable good = if good then 21 else 20

abbrev pub run_from : Option Rule → Option Cursor → (cursor buffer : List ℕ) → ℕ → Shown
run_from None c cursor buffer m = refused_shows 20 cursor buffer
run_from (Some r) None cursor buffer m = refused_shows (unreadable (yielded r)) cursor buffer
run_from (Some r) (Some c) cursor buffer m = shows (run_of r c buffer m) cursor

unfoldable pub run_says : (rulebytes cursorbytes buffer : List ℕ) → ℕ → Shown
run_says rulebytes cursorbytes buffer m = run_from (decode_record rulebytes) (decode_cursor cursorbytes) cursorbytes buffer m
