-- The same run as a function that computes: over the candidates that remain, then over the moves left.
-- Assumes nothing.
use Rattle.std.specs.Prelude.{ℕ, zero, suc, true, false, List, [], ◌∷◌}
use Rattle.machine.specs.declared.State.{State}
use Rattle.machine.specs.declared.Stop.{Stop}
use Rattle.machine.specs.declared.Cursor.{Cursor}
use Rattle.machine.specs.Given.{Given}
use Rattle.machine.specs.Cursors.{remaining}
use Rattle.machine.specs.Run.{at_candidate, move_on, Call, Now, opened, does, full, Outcome}

abbrev pub outcome : {A : Type 0} → Stop → Now A → Outcome A
outcome why s = record { stop = why; now = s }

-- the walk over the candidates of a period: it stops the run, or comes through
pub data Walked (A : Type 0) : Type 0 where
  stopped : Outcome A → Walked A
  through : Now A → Walked A

-- an ended cursor stops the walk; f says what a running one does
abbrev pub proceed : {A : Type 0} → (Now A → Walked A) → State → Now A → Walked A
proceed f (State.Ended cause) s = stopped (outcome Stop.Ended s)
proceed f State.Running s = f s

unfoldable pub walk : {A : Type 0} → Given A → List ℕ → Now A → Walked A
walk g [] s = through s
walk g (x ∷ xs) s = elim (full s) [
  | true ↦ stopped (outcome Stop.More s)
  | false ↦ proceed (walk g xs) (does g s (at_candidate g x s.cursor)).cursor.state (does g s (at_candidate g x s.cursor))
]

-- after the walk: f says what to do where none remains
unfoldable pub after : {A : Type 0} → (Now A → Outcome A) → Walked A → Outcome A
after f (stopped o) = o
after f (through s) = elim (full s) [
  | true ↦ outcome Stop.More s
  | false ↦ f s
]

-- an ended cursor stops with Ended; f says what a running one does
abbrev pub resume : {A : Type 0} → (Now A → Outcome A) → State → Now A → Outcome A
resume f (State.Ended cause) s = outcome Stop.Ended s
resume f State.Running s = f s

-- a move, and what f does from where it leads
abbrev pub move_then : {A : Type 0} → Given A → (Now A → Outcome A) → Now A → Outcome A
move_then g f s = resume f (does g s (move_on g s.cursor)).cursor.state (does g s (move_on g s.cursor))

-- a running cursor, with so many moves left
unfoldable pub runs : {A : Type 0} → Given A → ℕ → Now A → Outcome A
runs g zero s = after (outcome Stop.Limited) (walk g (remaining g s.cursor) s)
runs g (suc left) s = after (move_then g (runs g left)) (walk g (remaining g s.cursor) s)

unfoldable pub run : {A : Type 0} → Given A → Cursor → Call A → Outcome A
run g c x = resume (runs g x.budget) c.state (opened c x)
