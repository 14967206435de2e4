-- One answer: two answers that the promise of `run` allows are one, and so are the buffers that it leaves. `Post` is the promise as the source
-- states it.
-- Assumes nothing.
use mathlib.Core.Path.{ap}
use mathlib.Core.List.{List}
use Prim.Native.Nat.{ℕ}
use Rattle.calendar.proofs.AsksNothing.{AsksNothing, nothing_asked}
use Rattle.calendar.proofs.Determines.{DeterminesBuffer, one_answer}
use Rattle.machine.specs.Calls.{Answered}
use Rattle.listing.proofs.rrule_iter.run.Kinds as run-kinds
use Rattle.listing.proofs.rrule_iter.run.Reads as run

pub run_has_one : DeterminesBuffer 2 run-kinds.ps run-kinds.r (List ℕ) (λ κs e. e.1.1.0.now) run.Post
run_has_one κs a x y e f p q =
    (ap (λ (z : Answered ℕ). z.answer) (one_answer p q), ap (λ (z : Answered ℕ). z.buffer) (one_answer p q))

-- and it asks nothing of its callers
pub run_asks_nothing : AsksNothing 2 run-kinds.ps run.requires
run_asks_nothing κs a = nothing_asked
