-- One answer: two answers that the promise allows are one, and so are the buffers that they leave. `Post` is the promise as the source states it.
-- Assumes nothing.
use Prim.Native.Nat.{ℕ}
use mathlib.Core.List.{List}
use Rattle.calendar.proofs.AsksNothing.{AsksNothing, nothing_asked}
use Rattle.calendar.proofs.Determines.{DeterminesBuffer, one_answer}
use Rattle.crossing.proofs.ReadBack.{one_walked}
use Rattle.crossing.proofs.rrule_iter.walk_days.Kinds as walk-days-kinds
use Rattle.crossing.proofs.rrule_iter.walk_days.Reads as walk-days

-- the buffer is the fourth parameter
pub walk_days_has_one : DeterminesBuffer 3 walk-days-kinds.ps walk-days-kinds.r (List ℕ) (λ κs e. e.1.1.1.0.now) walk-days.Post
walk_days_has_one κs a x y e f p q = one_walked x y _ _ _ (one_answer p.0 q.0) p.1 q.1

-- and it asks nothing of its callers
pub walk_days_asks_nothing : AsksNothing 3 walk-days-kinds.ps walk-days.requires
walk_days_asks_nothing κs a = nothing_asked
