-- What every call keeps to, and what calls hand out together.
-- Assumes nothing.
use Rattle.std.specs.Prelude.{ℕ, zero, suc, ◌+◌, ◌≤◌, ◌<◌, ◌≡◌, ◌⊎◌, ◌↔◌, List, [], ◌∷◌, map, length, drop}
use Rattle.machine.specs.declared.Cause.{Cause}
use Rattle.machine.specs.declared.State.{State}
use Rattle.machine.specs.declared.Stop.{Stop}
use Rattle.machine.specs.declared.Cursor.{Cursor}
use Rattle.machine.specs.Rising.{◌∈◌, Rises}
use Rattle.machine.specs.Given.{Bound.present, AtMost, Above, Move, Move.To, Move.NoTick, Move.Range, Given, Satisfies}
use Rattle.machine.specs.Cursors.{remaining, next, WellFormed}
use Rattle.machine.specs.Run.{Call, Now, Outcome}
use Rattle.machine.specs.Calls.{Told, join}

-- n moves, one after the other, from period k
unfoldable pub moved : {A : Type 0} → Given A → ℕ → ℕ → Move
moved g zero k = To k
moved g (suc n) k = elim (g.move k) [
  | To k' ↦ moved g n k'
  | NoTick ↦ NoTick
  | Range ↦ Range
]

-- Why a call with m moves allowed stopped where it did. More needs a full buffer, Limited needs m moves made; a refusal is none of the reasons.
abbrev pub Reason : {A : Type 0} → Given A → ℕ → Now A → Stop → Type 0
Reason g m s Stop.Ended = (cause : Cause) × (s.cursor.state ≡ State.Ended cause)
Reason g m s Stop.More = (s.cursor.state ≡ State.Running) × (s.handed ≡ length s.buffer)
Reason g m s Stop.Limited = (s.cursor.state ≡ State.Running) × (s.handed ≡ length s.buffer → ⊥) × (remaining g s.cursor ≡ []) × (s.made ≡ m)
Reason g m s (Stop.Refused fault) = ⊥

-- How a run ends: it has reached COUNT; a kept candidate remains and is above UNTIL; or none remains, and the move ends it.
abbrev pub EndsBy : {A : Type 0} → Given A → Cursor → Cause → Type 0
EndsBy g c Cause.Count = g.count ≡ present c.number
EndsBy g c Cause.Interval = ⊥
EndsBy g c Cause.Until = (x : ℕ) × (xs : List ℕ) × (remaining g c ≡ x ∷ xs) × Above g.until x
EndsBy g c Cause.NoTick = (remaining g c ≡ []) × (g.move c.k ≡ NoTick)
EndsBy g c Cause.Range = (remaining g c ≡ []) × (g.move c.k ≡ Range)

-- what a call that is not refused keeps to
pub record KeepsTo {A : Type 0} (g : Given A) (c : Cursor) (x : Call A) (o : Outcome A) : Type 0 where
  pub reason : Reason g x.budget o.now o.stop
  -- a run that was not ended before ends for its cause
  pub cause : c.state ≡ State.Running → (cause : Cause) → o.now.cursor.state ≡ State.Ended cause → EndsBy g o.now.cursor cause
  pub budget : o.now.made ≤ x.budget
  pub fits : o.now.handed ≤ length x.buffer
  pub same_length : length o.now.buffer ≡ length x.buffer
  -- entries past those handed out keep their values
  pub rest : drop o.now.handed o.now.buffer ≡ drop o.now.handed x.buffer
  -- the count handed out in this call is what the cursor's number has grown by
  pub number : o.now.cursor.number ≡ c.number + o.now.handed
  -- the number of moves made shows in the cursor's k
  pub moves : moved g o.now.made c.k ≡ To o.now.cursor.k

-- the calls have come to an end
abbrev pub Over : {A : Type 0} → Told A → Type 0
Over t = (cause : Cause) × (t.cursor.state ≡ State.Ended cause)

-- a is the first part of what b tells
abbrev pub First : {A : Type 0} → Told A → Told A → Type 0
First {A} a b = (more : Told A) × (join a more ≡ b)

-- each call has room for an instant and budget for a move
abbrev pub Able : {A : Type 0} → List (Call A) → Type 0
Able [] = Unit {0}
Able (x ∷ xs) = (1 ≤ length x.buffer) × (1 ≤ x.budget) × Able xs

-- nothing that satisfies is missing from xs
abbrev pub All : {A : Type 0} → Given A → List ℕ → Type 0
All g xs = (s : ℕ) → Satisfies g s → s ∈ xs

-- the whole listing, where it can be written down
pub record Whole {A : Type 0} (g : Given A) (xs : List ℕ) : Type 0 where
  pub top : ℕ
  pub rises : Rises 0 xs top
  pub only : (s : ℕ) → s ∈ xs → Satisfies g s
  pub all : All g xs

-- What the cause of an ended cursor says of what lies ahead, where INTERVAL is at least 1: COUNT is reached; or nothing that satisfies is left.
abbrev pub Why : {A : Type 0} → Given A → Cursor → Cause → Type 0
Why g c Cause.Count = g.count ≡ present c.number
Why g c Cause.Interval = ⊥
Why g c Cause.Until = (s : ℕ) → Satisfies g s → s < next g c
Why g c Cause.NoTick = (s : ℕ) → Satisfies g s → s < next g c
Why g c Cause.Range = (s : ℕ) → Satisfies g s → s < next g c

-- Calls that lead from c to d hand out xs: strictly rising, all that satisfies from the next candidate of c on and before that of d, and no other.
pub record Listed {A : Type 0} (g : Given A) (c : Cursor) (xs : List ℕ) (d : Cursor) : Type 0 where
  pub formed : WellFormed g d
  pub rises : Rises (next g c) xs (next g d)
  pub only : (s : ℕ) → s ∈ xs → Satisfies g s
  pub all : (s : ℕ) → Satisfies g s → next g c ≤ s → s < next g d → s ∈ xs
  pub number : d.number ≡ c.number + length xs
  pub counted : AtMost g.count d.number
  pub why : (cause : Cause) → d.state ≡ State.Ended cause → Why g d cause

-- the same of what calls from c have told
pub record ListsFrom {A : Type 0} (g : Given A) (c : Cursor) (t : Told A) : Type 0 where
  pub seconds : List ℕ
  pub written : t.listed ≡ map g.shown seconds
  pub listed : Listed g c seconds t.cursor

-- What the cause says of calls from a fresh cursor that have ended and handed out xs.
abbrev pub Says : {A : Type 0} → Given A → List ℕ → Cause → Type 0
Says g xs Cause.Count = g.count ≡ present (length xs)
Says g xs Cause.Interval = g.interval ≡ 0
Says g xs Cause.Until = All g xs
Says g xs Cause.NoTick = All g xs
Says g xs Cause.Range = All g xs

-- What calls from a fresh cursor list.
pub record Lists {A : Type 0} (g : Given A) (t : Told A) : Type 0 where
  -- what is handed out is what is shown of these seconds, which rise strictly
  pub seconds : List ℕ
  pub written : t.listed ≡ map g.shown seconds
  pub rises : Rises 0 seconds (next g t.cursor)
  -- the cursor left is well formed
  pub formed : WellFormed g t.cursor
  -- each of them satisfies, and none that satisfies is passed over
  pub only : (s : ℕ) → s ∈ seconds → Satisfies g s
  pub none_skipped : (s u : ℕ) → u ∈ seconds → Satisfies g s → s ≤ u → s ∈ seconds
  -- where INTERVAL is at least 1, they are exactly what satisfies before the next candidate of the cursor left
  pub exactly : 1 ≤ g.interval → (s : ℕ) → (s ∈ seconds) ↔ (Satisfies g s × (s < next g t.cursor))
  pub number : t.cursor.number ≡ length seconds
  pub counted : AtMost g.count (length seconds)
  -- an end by Count has handed out exactly COUNT; one by Until, NoTick or Range leaves nothing that satisfies
  pub ended : (cause : Cause) → t.cursor.state ≡ State.Ended cause → Says g seconds cause
  -- COUNT 0 or INTERVAL 0: nothing is handed out
  pub nothing : (g.count ≡ present 0) ⊎ (g.interval ≡ 0) → seconds ≡ []
