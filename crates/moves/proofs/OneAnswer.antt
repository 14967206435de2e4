-- One answer: of the public function, two answers that its promise allows are one. `Post` is the promise as the source states it.
-- Assumes nothing.
use Rattle.calendar.proofs.AsksNothing.{AsksNothing, nothing_asked}
use Rattle.calendar.proofs.Determines.{Determines, one_answer}
use Rattle.moves.proofs.counter_date.increment.Kinds as increment-kinds
use Rattle.moves.proofs.counter_date.increment.Reads as increment

pub increment_has_one : Determines 1 increment-kinds.ps increment-kinds.r increment.Post
increment_has_one κs a x y e f = one_answer

-- and it asks nothing of its callers
pub increment_asks_nothing : AsksNothing 1 increment-kinds.ps increment.requires
increment_asks_nothing κs a = nothing_asked
