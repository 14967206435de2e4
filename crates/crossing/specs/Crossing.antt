-- The walk over a period's candidates, where it may be.
-- Assumes nothing.
use Rattle.std.specs.Prelude.{ℕ, ◌+◌, ◌*◌, ◌≤◌, ◌≡◌, Bool, ◌&&◌, List, length, if◌then◌else◌}
use Rattle.machine.specs.declared.State.{State}
use Rattle.machine.specs.Compute as compute
use Rattle.walks.specs.declared.rrule_iter.Held.{Held}
use Rattle.walks.specs.declared.rrule_iter.Bounds.{Bounds}
use Rattle.walks.specs.declared.rrule_iter.Frame.{Frame}
use Rattle.walks.specs.Walks.{now_of, is_framed, second_at, walk_from}
use Rattle.passing.specs.Passing.{is_ready}

-- whether a walk may be: over such a frame, by a call that is ready
abbrev pub is_walkable : Frame → Bounds → Held → List ℕ → Bool
is_walkable f b h buffer = is_framed f && is_ready b h (length buffer)

-- The walk over days and times. Where a walk may not be, it comes through at once, and nothing changes.
abbrev pub days_walk : Frame → Bounds → Held → (days lists buffer : List ℕ) → compute.Walked ℕ
days_walk f b h days lists buffer =
    if is_walkable f b h buffer then walk_from b (second_at f days lists) (f.days * f.times) h buffer else compute.through (now_of State.Running h buffer)

-- What a walk from h over n candidates keeps to: the period and the moves stay, and so does the buffer's length; as many are numbered as handed
-- out, and none without room; the place rises, and stays among the n candidates.
pub record Keeps (n : ℕ) (h : Held) (buffer : List ℕ) (r : Held) (last : List ℕ) : Type 0 where
  pub k : r.cursor.k ≡ h.cursor.k
  pub moves : r.moves ≡ h.moves
  pub long : length last ≡ length buffer
  pub more : h.handed ≤ r.handed
  pub room : r.handed ≤ length last
  pub number : r.cursor.number + h.handed ≡ h.cursor.number + r.handed
  pub on : h.cursor.place ≤ r.cursor.place
  pub within : h.cursor.place ≤ n → r.cursor.place ≤ n
