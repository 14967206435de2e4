-- Calls: what is refused, the answer with the whole buffer, and calls one after the other.
-- Assumes nothing.
use Rattle.std.specs.Prelude.{ℕ, ◌+◌, Bool, true, false, List, [], ◌∷◌, ◌++◌, take}
use Rattle.machine.specs.declared.Fault.{Fault}
use Rattle.machine.specs.declared.Stop.{Stop}
use Rattle.machine.specs.declared.Cursor.{Cursor}
use Rattle.machine.specs.declared.Answer.{Answer}
use Rattle.machine.specs.Given.{Given}
use Rattle.machine.specs.Cursors.{well_formed}
use Rattle.machine.specs.Run.{Call, opened, Outcome}
use Rattle.machine.specs.Compute.{outcome, run}

-- A refused run returns the cursor as given, zero moves and zero handed out, and writes nothing.
abbrev pub refuse : {A : Type 0} → Fault → Cursor → Call A → Outcome A
refuse fault c x = outcome (Stop.Refused fault) (opened c x)

-- One call, where `good` says whether the record is one that an accepted check yields. The lowest number that applies is given: 20, then 21.
unfoldable pub call : {A : Type 0} → Bool → Given A → Cursor → Call A → Outcome A
call good g c x = elim good [
  | false ↦ refuse Fault.Record c x
  | true ↦ elim (well_formed g c) [
    | false ↦ refuse Fault.Cursor c x
    | true ↦ run g c x
  ]
]

-- an answer beside the whole buffer: what a run's promise speaks of
pub record Answered (A : Type 0) : Type 0 where
  pub answer : Answer
  pub buffer : List A

abbrev pub beside : {A : Type 0} → Answer → List A → Answered A
beside answer buffer = record { answer = answer; buffer = buffer }

abbrev pub answered : {A : Type 0} → Outcome A → Answered A
answered o = beside (record { stop = o.stop; cursor = o.now.cursor; moves = o.now.made; handed = o.now.handed }) o.now.buffer

-- what calls tell together: what was handed out, the moves made, and the cursor left
pub record Told (A : Type 0) : Type 0 where
  pub listed : List A
  pub moves : ℕ
  pub cursor : Cursor

abbrev pub tells : {A : Type 0} → Outcome A → Told A
tells o = record { listed = take o.now.handed o.now.buffer; moves = o.now.made; cursor = o.now.cursor }

abbrev pub join : {A : Type 0} → Told A → Told A → Told A
join a b = record { listed = a.listed ++ b.listed; moves = a.moves + b.moves; cursor = b.cursor }

abbrev pub still : {A : Type 0} → Cursor → Told A
still c = record { listed = []; moves = 0; cursor = c }

-- Calls one after the other, each from the cursor that the one before it left; f says what one call does: `run g`, or `call good g`.
unfoldable pub chain : {A : Type 0} → (Cursor → Call A → Outcome A) → Cursor → List (Call A) → Told A
chain f c [] = still c
chain f c (x ∷ xs) = join (tells (f c x)) (chain f (f c x).now.cursor xs)

-- P holds of each of these calls
abbrev pub Each : {A : Type 0} → (Cursor → Call A → Outcome A) → (Cursor → Call A → Outcome A → Type 0) → Cursor → List (Call A) → Type 0
Each f P c [] = Unit {0}
Each f P c (x ∷ xs) = P c x (f c x) × Each f P (f c x).now.cursor xs
