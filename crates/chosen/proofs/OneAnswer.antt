-- One answer: two answers that the promise allows are one, and so are the buffers that they leave. `Post` is the promise as the source states it.
-- Assumes nothing.
use Prim.Native.Nat.{ℕ}
use mathlib.Core.List.{List}
use Rattle.calendar.proofs.AsksNothing.{AsksNothing, nothing_asked}
use Rattle.calendar.proofs.Determines.{DeterminesBuffer, one_answer}
use Rattle.crossing.proofs.ReadBack.{one_walked}
use Rattle.chosen.proofs.rrule_iter.walk_places.Kinds as walk-places-kinds
use Rattle.chosen.proofs.rrule_iter.walk_places.Reads as walk-places

-- the buffer is the sixth parameter
pub walk_places_has_one : DeterminesBuffer 4 walk-places-kinds.ps walk-places-kinds.r (List ℕ) (λ κs e. e.1.1.1.1.1.0.now) walk-places.Post
walk_places_has_one κs a x y e f p q = one_walked x y _ _ _ (one_answer p.0 q.0) p.1 q.1

-- and it asks nothing of its callers
pub walk_places_asks_nothing : AsksNothing 4 walk-places-kinds.ps walk-places.requires
walk_places_asks_nothing κs a = nothing_asked
