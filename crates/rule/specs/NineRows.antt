-- The table before request 2026-01, of nine rows, and what of its answers stays. Nothing but the claims below leans on it.
-- Assumes nothing.
use Rattle.std.specs.Prelude.{ℕ, ◌≡◌, Bool, true, false, ◌&&◌, List, [], ◌∷◌, Ok, Err}
use Rattle.machine.specs.declared.Cursor.{Cursor}
use Rattle.machine.specs.Calls.{call, Answered, answered}
use Rattle.rule.specs.declared.rrule.Refusal.{Refusal}
use Rattle.rule.specs.Refusals.{Verdict}
use Rattle.rule.specs.Filling.{Checked}
use Rattle.rule.specs.declared.rrule.Rule.{Rule}
use Rattle.rule.specs.Raw.{Raw}
use Rattle.rule.specs.Refusals.{applies, first_of, verdict}
use Rattle.rule.specs.Filling.{given, fill, answers, checked}
use Rattle.rule.specs.Records.{as_raw, accepts, same_sets, yielded}
use Rattle.rule.specs.Run.{periods, run_of}

abbrev pub nine_rows : List Refusal
nine_rows =
    Refusal.FrequencyAbove ∷
    Refusal.WeekStartAbove ∷
    Refusal.StartOut ∷
    Refusal.UntilOut ∷
    Refusal.EntryOut ∷
    Refusal.NotRising ∷
    Refusal.MixedDays ∷
    Refusal.NthMisplaced ∷
    Refusal.PositionsAlone ∷
    []

-- the rows that the request adds
abbrev pub new_rows : List Refusal
new_rows = Refusal.Nought ∷ Refusal.CountAndUntil ∷ Refusal.ListMisplaced ∷ []

-- the verdict, the check, the test of a record and a run, as they were
unfoldable pub verdict_by_nine : Raw → Verdict
verdict_by_nine w = first_of (λ n. applies n w) nine_rows

unfoldable pub checked_by_nine : Raw → Checked
checked_by_nine w = answers (verdict_by_nine w) (fill (given w))

unfoldable pub yielded_by_nine : Rule → Bool
yielded_by_nine r = accepts (verdict_by_nine (as_raw r)) && same_sets (fill (given (as_raw r))) r

unfoldable pub run_by_nine : Rule → Cursor → List ℕ → ℕ → Answered ℕ
run_by_nine r c buffer m = answered (call (yielded_by_nine r) (periods r) c (record { buffer = buffer; budget = m }))

-- Where one of 1 to 9 applies, the check answers as it did; else 10, 11 or 12 are given by their own tests.
abbrev pub EarlierRowsFirst : Type 0
EarlierRowsFirst = (w : Raw)
    → ((n : Refusal) → verdict_by_nine w ≡ Err n → checked w ≡ checked_by_nine w)
    × (verdict_by_nine w ≡ Ok tt → verdict w ≡ first_of (λ n. applies n w) new_rows)

-- What is accepted now was accepted, with the same record; and what none of the new rows applies to is answered as it was.
abbrev pub StillAccepted : Type 0
StillAccepted = (w : Raw) (r : Rule) → checked w ≡ Ok r → checked_by_nine w ≡ checked w

-- none of the new rows applies
pub record Untouched (w : Raw) : Type 0 where
  pub nought : applies Refusal.Nought w ≡ false
  pub both : applies Refusal.CountAndUntil w ≡ false
  pub misplaced : applies Refusal.ListMisplaced w ≡ false

abbrev pub CheckStays : Type 0
CheckStays = (w : Raw) → Untouched w → checked w ≡ checked_by_nine w

-- The same of a run: it is answered as it was, from every cursor, with every buffer and budget, where none of the new rows applies to its record.
abbrev pub RunStays : Type 0
RunStays = (r : Rule) → Untouched (as_raw r) → (c : Cursor) (buffer : List ℕ) (m : ℕ) → run_of r c buffer m ≡ run_by_nine r c buffer m

-- A record that was good and isn't any more is one that a new row applies to.
abbrev pub NoLongerGood : Type 0
NoLongerGood = (r : Rule) → yielded_by_nine r ≡ true → yielded r ≡ false → Untouched (as_raw r) → ⊥
