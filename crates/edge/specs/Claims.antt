-- What follows from the layout and from what the calls say. The proofs are in proofs: ReadBack, OneForm and Said. What runs list is in Chains.
-- Assumes nothing.
use Rattle.std.specs.Prelude.{ℕ, ◌≤◌, ◌<◌, ◌≡◌, ◌⊎◌, true, List, length, get_or, Some, Ok, Err}
use Rattle.machine.specs.declared.State.{State}
use Rattle.machine.specs.declared.Cursor.{Cursor}
use Rattle.rule.specs.declared.rrule.Refusal.{Refusal}
use Rattle.rule.specs.declared.rrule.Rule.{Rule}
use Rattle.rule.specs.Raw.{Raw}
use Rattle.rule.specs.Refusals.{refusal_number}
use Rattle.rule.specs.Filling.{checked}
use Rattle.rule.specs.Records.{yielded, Sized}
use Rattle.rule.specs.Run.{start_in, run_of}
use Rattle.edge.specs.Layout.{record_length, record_version, encode_record, decode_record, cursor_length, cursor_version, encode_cursor}
use Rattle.edge.specs.Layout.{decode_cursor}
use Rattle.edge.specs.Edge.{said, check_says, fresh_says, shown, shows, run_says}

-- every byte is below 256: so it is with all that comes from C
abbrev pub AreBytes : List ℕ → Type 0
AreBytes bytes = (i : ℕ) → get_or bytes i 0 < 256

-- A record whose sets have their lengths, as every value of the type Rule has, is read back from the bytes that are written of it.
abbrev pub RecordReadBack : Type 0
RecordReadBack = (r : Rule) → Sized r → decode_record (encode_record r) ≡ Some r

-- Bytes that hold a record are those that are written of it: a record has one form.
abbrev pub RecordOneForm : Type 0
RecordOneForm = (bytes : List ℕ) (r : Rule) → AreBytes bytes → decode_record bytes ≡ Some r → encode_record r ≡ bytes

-- the same of a cursor
abbrev pub CursorReadBack : Type 0
CursorReadBack = (c : Cursor) → decode_cursor (encode_cursor c) ≡ Some c

abbrev pub CursorOneForm : Type 0
CursorOneForm = (bytes : List ℕ) (c : Cursor) → AreBytes bytes → decode_cursor bytes ≡ Some c → encode_cursor c ≡ bytes

-- From bytes that were written, a run is the run of that record from that cursor. So what is proved of calls one after the other holds of calls from C.
abbrev pub RunOfWritten : Type 0
RunOfWritten =
    (r : Rule) (c : Cursor) (buffer : List ℕ) (m : ℕ) → Sized r → run_says (encode_record r) (encode_cursor c) buffer m ≡ shows (run_of r c buffer m) (encode_cursor c)

-- The rule is judged first: one that is refused is answered with its own number, whatever bytes are lent; an accepted one with 20 where their length is
-- another, and else with 0 and its record.
abbrev pub CheckOfRefused : Type 0
CheckOfRefused = (w : Raw) (bytes : List ℕ) (n : Refusal) → checked w ≡ Err n → check_says w bytes ≡ said (refusal_number n) bytes

abbrev pub CheckOfAccepted : Type 0
CheckOfAccepted = (w : Raw) (bytes : List ℕ) (r : Rule) → checked w ≡ Ok r
    → (length bytes ≡ record_length → check_says w bytes ≡ said 0 (encode_record r))
    × ((length bytes ≡ record_length → ⊥) → check_says w bytes ≡ said 20 bytes)

-- Bytes of another length or of another version are refused, whatever else they hold: a record's with 20, a cursor's with 21 where the record is good.
abbrev pub IsOther : (length version : ℕ) → List ℕ → Type 0
IsOther n version bytes = (length bytes ≡ n → ⊥) ⊎ (get_or bytes 0 0 ≡ version → ⊥)

abbrev pub OtherRecordRefused : Type 0
OtherRecordRefused = (rulebytes cursorbytes : List ℕ) → IsOther record_length record_version rulebytes
    → (fresh_says rulebytes cursorbytes ≡ said 20 cursorbytes)
    × ((buffer : List ℕ) (m : ℕ) → run_says rulebytes cursorbytes buffer m ≡ shown 20 cursorbytes buffer 0 0 0)

abbrev pub OtherCursorRefused : Type 0
OtherCursorRefused = (rulebytes cursorbytes buffer : List ℕ) (m : ℕ) (r : Rule) → decode_record rulebytes ≡ Some r → yielded r ≡ true
    → IsOther cursor_length cursor_version cursorbytes → run_says rulebytes cursorbytes buffer m ≡ shown 21 cursorbytes buffer 0 0 0

-- A cursor kept from before request 2026-02 has the version 1: since a place in week period 0 means another instant now, it is refused.
abbrev pub KeptFromBeforeRefused : Type 0
KeptFromBeforeRefused = (rulebytes cursorbytes buffer : List ℕ) (m : ℕ) (r : Rule) → decode_record rulebytes ≡ Some r → yielded r ≡ true
    → get_or cursorbytes 0 0 ≡ 1 → run_says rulebytes cursorbytes buffer m ≡ shown 21 cursorbytes buffer 0 0 0

-- Only the numbers of the table are said, and a call that says one of a refusal leaves what was lent as it was.
abbrev pub CheckNumbers : Type 0
CheckNumbers = (w : Raw) (bytes : List ℕ) → ((check_says w bytes).number ≤ 12) ⊎ ((check_says w bytes).number ≡ 20)

abbrev pub CheckRefusedLeaves : Type 0
CheckRefusedLeaves = (w : Raw) (bytes : List ℕ) → 0 < (check_says w bytes).number → (check_says w bytes).bytes ≡ bytes

abbrev pub FreshNumbers : Type 0
FreshNumbers = (rulebytes cursorbytes : List ℕ) → ((fresh_says rulebytes cursorbytes).number ≡ 0) ⊎ (((fresh_says rulebytes cursorbytes).number ≡ 20) ⊎ ((fresh_says rulebytes cursorbytes).number ≡ 21))

abbrev pub FreshRefusedLeaves : Type 0
FreshRefusedLeaves = (rulebytes cursorbytes : List ℕ) → 0 < (fresh_says rulebytes cursorbytes).number → (fresh_says rulebytes cursorbytes).bytes ≡ cursorbytes

-- A fresh cursor that is made is running, with nothing passed and nothing handed out.
abbrev pub FreshIsRunning : Type 0
FreshIsRunning = (rulebytes cursorbytes : List ℕ) → (fresh_says rulebytes cursorbytes).number ≡ 0
    → (fresh_says rulebytes cursorbytes).bytes ≡ encode_cursor (start_in State.Running)

abbrev pub RunNumbers : Type 0
RunNumbers = (rulebytes cursorbytes buffer : List ℕ) (m : ℕ)
    → ((100 ≤ (run_says rulebytes cursorbytes buffer m).stop) × ((run_says rulebytes cursorbytes buffer m).stop ≤ 102))
    ⊎ (((run_says rulebytes cursorbytes buffer m).stop ≡ 20) ⊎ ((run_says rulebytes cursorbytes buffer m).stop ≡ 21))

abbrev pub RunRefusedLeaves : Type 0
RunRefusedLeaves = (rulebytes cursorbytes buffer : List ℕ) (m : ℕ) → (run_says rulebytes cursorbytes buffer m).stop < 100
    → run_says rulebytes cursorbytes buffer m ≡ shown (run_says rulebytes cursorbytes buffer m).stop cursorbytes buffer 0 0 0
