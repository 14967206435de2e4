-- Which numbers the calls say, and that a refused call leaves what was lent as it was.
-- Assumes nothing.
use Rattle.std.specs.Prelude.{if◌then◌else◌, Option, Some, None, Ok, Err}
use Prim.Native.Nat.{ℕ, ◌≤◌, ◌<◌}
use mathlib.Core.Path.{◌≡◌, refl, sym, ap}
use mathlib.Core.Logic.{◌⊎◌, inl, inr, ⊎_elim}
use mathlib.Core.Bool.{Bool, true, false, not, ◌&&◌}
use mathlib.Core.List.{List}
use native.Mathlib.Omega.{arith}
use lib.Dec.{eqb}
use lib.ListN.{length, get_or}
use borrow.Author.Tests.{eq-eqb, ne_eqb}
use Rattle.machine.specs.declared.State.{State}
use Rattle.machine.specs.declared.Fault.{Fault}
use Rattle.machine.specs.declared.Stop.{Stop}
use Rattle.machine.specs.declared.Cursor.{Cursor}
use Rattle.machine.specs.Faults.{fault_number}
use Rattle.machine.specs.Calls.{Answered}
use Rattle.machine.proofs.Theorems.{refused_as_given}
use Rattle.rule.specs.declared.rrule.Refusal.{Refusal}
use Rattle.rule.specs.declared.rrule.Rule.{Rule}
use Rattle.rule.specs.Refusals.{refusal_number}
use Rattle.rule.specs.Filling.{Checked, checked}
use Rattle.rule.specs.Records.{yielded}
use Rattle.rule.specs.Run.{periods, start_in, fresh_of, run_of}
use Rattle.rule.proofs.Cursors.{fresh_runs}
use Rattle.edge.specs.Layout.{record_length, record_version, encode_record, is_record_bytes, decode_record}
use Rattle.edge.specs.Layout.{cursor_length, cursor_version, encode_cursor, is_cursor_bytes, decode_cursor}
use Rattle.edge.specs.Edge.{Said, said, said_of, check_says, fresh_from, fresh_says, Shown, shown, shows, refused_shows, unreadable, run_from, run_says}
use Rattle.edge.specs.Claims.{CheckOfRefused, CheckOfAccepted, IsOther, OtherRecordRefused, OtherCursorRefused, KeptFromBeforeRefused, CheckNumbers}
use Rattle.edge.specs.Claims.{CheckRefusedLeaves, FreshNumbers, FreshRefusedLeaves, FreshIsRunning, RunNumbers, RunRefusedLeaves, RunOfWritten}
use Rattle.edge.proofs.EdgeLaws.{no_record, no_cursor, fresh_no_record, run_no_record, run_no_cursor}
use Rattle.edge.proofs.ReadBack.{record_read_back, cursor_read_back}

never : {A : Type 0} (n : ℕ) → n < n → A
never n h = absurd (omega arith)

-- the check
pub refusal_range : (r : Refusal) → (0 < refusal_number r) × (refusal_number r ≤ 12)
refusal_range Refusal.FrequencyAbove = (omega arith, omega arith)
refusal_range Refusal.WeekStartAbove = (omega arith, omega arith)
refusal_range Refusal.StartOut = (omega arith, omega arith)
refusal_range Refusal.UntilOut = (omega arith, omega arith)
refusal_range Refusal.EntryOut = (omega arith, omega arith)
refusal_range Refusal.NotRising = (omega arith, omega arith)
refusal_range Refusal.MixedDays = (omega arith, omega arith)
refusal_range Refusal.NthMisplaced = (omega arith, omega arith)
refusal_range Refusal.PositionsAlone = (omega arith, omega arith)
refusal_range Refusal.Nought = (omega arith, omega arith)
refusal_range Refusal.CountAndUntil = (omega arith, omega arith)
refusal_range Refusal.ListMisplaced = (omega arith, omega arith)

check_cases : (P : Said → Type 0) (v : Checked) (bytes : List ℕ) → ((n : Refusal) → P (said (refusal_number n) bytes)) → P (said 20 bytes)
    → ((r : Rule) → P (said 0 (encode_record r))) → P (said_of v bytes)
check_cases P (Err n) bytes a b c = a n
check_cases P (Ok r) bytes a b c = go (eqb (length bytes) record_length)
  where
    go : (t : Bool) → P (if t then said 0 (encode_record r) else said 20 bytes)
    go true = c r
    go false = b

pub check_numbers : CheckNumbers
unfolding check_says
check_numbers w bytes =
    check_cases (λ x. (x.number ≤ 12) ⊎ (x.number ≡ 20)) (checked w) bytes (λ n. inl (refusal_range n).1) (inr refl) (λ r. inl (omega arith))

pub check_refused_leaves : CheckRefusedLeaves
unfolding check_says
check_refused_leaves w bytes =
    check_cases (λ x. 0 < x.number → x.bytes ≡ bytes) (checked w) bytes (λ n h. refl) (λ h. refl) (λ r h. never 0 h)

pub check_of_refused : CheckOfRefused
unfolding check_says
check_of_refused w bytes n e = rw e

pub check_of_accepted : CheckOfAccepted
unfolding check_says
check_of_accepted w bytes r e = (λ l. rw (e, eq-eqb (length bytes) record_length l), λ l. rw (e, ne_eqb (length bytes) record_length l))

-- the fresh cursor
fresh_cases : (P : Said → Type 0) (d : Option Rule) (bytes : List ℕ) → P (said 20 bytes) → P (said 21 bytes)
    → ((r : Rule) → yielded r ≡ true → P (said 0 (encode_cursor (fresh_of r)))) → P (fresh_from d bytes)
fresh_cases P None bytes a b c = a
fresh_cases P (Some r) bytes a b c = go (yielded r) (eqb (length bytes) cursor_length) refl
  where
    go : (s t : Bool) → yielded r ≡ s → P (if not s then said 20 bytes else if not t then said 21 bytes else said 0 (encode_cursor (fresh_of r)))
    go false t e = a
    go true false e = b
    go true true e = c r e

pub fresh_numbers : FreshNumbers
unfolding fresh_says
fresh_numbers rulebytes cursorbytes =
    fresh_cases (λ x. (x.number ≡ 0) ⊎ ((x.number ≡ 20) ⊎ (x.number ≡ 21))) (decode_record rulebytes) cursorbytes (inr (inl refl)) (inr (inr refl))
    (λ r g. inl refl)

pub fresh_refused_leaves : FreshRefusedLeaves
unfolding fresh_says
fresh_refused_leaves rulebytes cursorbytes =
    fresh_cases (λ x. 0 < x.number → x.bytes ≡ cursorbytes) (decode_record rulebytes) cursorbytes (λ h. refl) (λ h. refl) (λ r g h. never 0 h)

pub fresh_is_running : FreshIsRunning
unfolding fresh_says
fresh_is_running rulebytes cursorbytes =
    fresh_cases (λ x. x.number ≡ 0 → x.bytes ≡ encode_cursor (start_in State.Running)) (decode_record rulebytes) cursorbytes (λ h. absurd (omega arith))
    (λ h. absurd (omega arith)) (λ r g h. ap encode_cursor (fresh_runs r g))

-- the run: refused before it begins, refused by the run itself, or answered
abbrev Good : List ℕ → List ℕ → Shown → Type 0
Good cursor buffer x =
    (((100 ≤ x.stop) × (x.stop ≤ 102)) ⊎ ((x.stop ≡ 20) ⊎ (x.stop ≡ 21))) × (x.stop < 100 → x ≡ shown x.stop cursor buffer 0 0 0)

refused_good : (fault : Fault) (cursor buffer : List ℕ) → Good cursor buffer (refused_shows (fault_number fault) cursor buffer)
refused_good Fault.Record cursor buffer = (inr (inl refl), λ h. refl)
refused_good Fault.Cursor cursor buffer = (inr (inr refl), λ h. refl)

answered_good : (stop : Stop) (a : Answered ℕ) (cursor buffer : List ℕ) → a.answer.stop ≡ stop
    → ((fault : Fault) → a.answer.stop ≡ Stop.Refused fault → a.buffer ≡ buffer) → Good cursor buffer (shows a cursor)
answered_good Stop.More a cursor buffer e f = rw e (inl (omega arith, omega arith), λ h. absurd (omega arith))
answered_good Stop.Limited a cursor buffer e f = rw e (inl (omega arith, omega arith), λ h. absurd (omega arith))
answered_good Stop.Ended a cursor buffer e f = rw e (inl (omega arith, omega arith), λ h. absurd (omega arith))
answered_good (Stop.Refused fault) a cursor buffer e f = rw (e, f fault e) (refused_good fault cursor buffer)

buffer_kept : (r : Rule) (c : Cursor) (buffer : List ℕ) (m : ℕ) (fault : Fault) → (run_of r c buffer m).answer.stop ≡ Stop.Refused fault → (run_of r c buffer m).buffer ≡ buffer
unfolding run_of
buffer_kept r c buffer m fault e = ap (λ (a : Answered ℕ). a.buffer) (refused_as_given (periods r) (yielded r) c (record { buffer = buffer; budget = m }) fault e)

run_good : (d : Option Rule) (k : Option Cursor) (cursor buffer : List ℕ) (m : ℕ) → Good cursor buffer (run_from d k cursor buffer m)
run_good None k cursor buffer m = refused_good Fault.Record cursor buffer
run_good (Some r) None cursor buffer m = go (yielded r)
  where
    go : (good : Bool) → Good cursor buffer (refused_shows (unreadable good) cursor buffer)
    go true = refused_good Fault.Cursor cursor buffer
    go false = refused_good Fault.Record cursor buffer
run_good (Some r) (Some c) cursor buffer m =
    answered_good (run_of r c buffer m).answer.stop (run_of r c buffer m) cursor buffer refl (buffer_kept r c buffer m)

pub run_numbers : RunNumbers
unfolding run_says
run_numbers rulebytes cursorbytes buffer m = (run_good (decode_record rulebytes) (decode_cursor cursorbytes) cursorbytes buffer m).0

pub run_refused_leaves : RunRefusedLeaves
unfolding run_says
run_refused_leaves rulebytes cursorbytes buffer m = (run_good (decode_record rulebytes) (decode_cursor cursorbytes) cursorbytes buffer m).1

pub run_of_written : RunOfWritten
unfolding run_says
run_of_written r c buffer m sized = rw (record_read_back r sized, cursor_read_back c)

-- bytes of another length or version hold nothing
and-false : (a : Bool) → a && false ≡ false
and-false true = refl
and-false false = refl

other_record : (bytes : List ℕ) → IsOther record_length record_version bytes → is_record_bytes bytes ≡ false
unfolding is_record_bytes
other_record bytes h =
    ⊎_elim (λ (l : length bytes ≡ record_length → ⊥). rw (ne_eqb (length bytes) record_length l))
    (λ (v : get_or bytes 0 0 ≡ record_version → ⊥). rw (ne_eqb (get_or bytes 0 0) record_version v) (and-false (eqb (length bytes) record_length))) h

other_cursor : (bytes : List ℕ) → IsOther cursor_length cursor_version bytes → is_cursor_bytes bytes ≡ false
unfolding is_cursor_bytes
other_cursor bytes h =
    ⊎_elim (λ (l : length bytes ≡ cursor_length → ⊥). rw (ne_eqb (length bytes) cursor_length l))
    (λ (v : get_or bytes 0 0 ≡ cursor_version → ⊥). rw (ne_eqb (get_or bytes 0 0) cursor_version v) (and-false (eqb (length bytes) cursor_length))) h

pub other_record_refused : OtherRecordRefused
other_record_refused rulebytes cursorbytes h =
    let e = no_record rulebytes (other_record rulebytes h) in
    (sym (fresh_no_record rulebytes cursorbytes e), λ buffer m. sym (run_no_record rulebytes cursorbytes buffer m e))

pub other_cursor_refused : OtherCursorRefused
other_cursor_refused rulebytes cursorbytes buffer m r held good h =
    sym (run_no_cursor rulebytes cursorbytes buffer m r held 21 (no_cursor cursorbytes (other_cursor cursorbytes h)) (ap unreadable (sym good)))

pub kept_from_before_refused : KeptFromBeforeRefused
kept_from_before_refused rulebytes cursorbytes buffer m r held good one =
    other_cursor_refused rulebytes cursorbytes buffer m r held good (inr (λ (two : get_or cursorbytes 0 0 ≡ cursor_version). omega arith))
