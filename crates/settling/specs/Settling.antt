-- What becomes of a call after the walk over a period.
-- Assumes nothing.
use Rattle.std.specs.Prelude.{ℕ, ◌+◌, min, Bool, true, false, eqb, Option, Some, None}
use Rattle.machine.specs.declared.Cause.{Cause}
use Rattle.machine.specs.declared.State.{State}
use Rattle.machine.specs.declared.Stop.{Stop}
use Rattle.machine.specs.declared.Cursor.{Cursor}
use Rattle.machine.specs.declared.Answer.{Answer}
use Rattle.machine.specs.Cursors.{move_to}
use Rattle.walks.specs.declared.rrule_iter.Why.{Why}
use Rattle.walks.specs.declared.rrule_iter.Held.{Held}
use Rattle.walks.specs.declared.rrule_iter.Walked.{Walked}
use Rattle.walks.specs.Walks.{in_state}

-- What a call holds as it begins; the answer that it gives of what it holds; and what it holds after a move, which is counted up to the largest
-- count that a u32 has.
abbrev pub held_of : Cursor → Held
held_of c = record { cursor = c; moves = 0; handed = 0 }

abbrev pub answer_of : Stop → State → Held → Answer
answer_of stop state h = record {
  stop = stop;
  cursor = in_state state h.cursor;
  moves = h.moves;
  handed = h.handed;
}

abbrev pub moved_to : ℕ → Held → Held
moved_to k h = record { cursor = move_to k h.cursor; moves = min (h.moves + 1) 4294967295; handed = h.handed }

-- no candidate remains: stop with More where the buffer is full, with Limited where m moves are made
abbrev pub settled_through : (full spent : Bool) → Held → Option Answer
settled_through true spent h = Some (answer_of Stop.More State.Running h)
settled_through false true h = Some (answer_of Stop.Limited State.Running h)
settled_through false false h = None

-- what a call that stops answers; none where it moves on
unfoldable pub settled : Walked → (room m : ℕ) → Option Answer
settled w room m = elim w.why [
  | Why.Full ↦ Some (answer_of Stop.More State.Running w.held)
  | Why.Until ↦ Some (answer_of Stop.Ended (State.Ended Cause.Until) w.held)
  | Why.Count ↦ Some (answer_of Stop.Ended (State.Ended Cause.Count) w.held)
  | Why.Through ↦ settled_through (eqb w.held.handed room) (eqb w.held.moves m) w.held
]
