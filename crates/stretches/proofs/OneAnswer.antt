-- One answer: of each public function, two answers that its promise allows are one. `Post` is the promise as the source states it.
-- Assumes nothing.
use Rattle.calendar.proofs.AsksNothing.{AsksNothing, nothing_asked}
use Rattle.calendar.proofs.Determines.{Determines, one_answer}
use Rattle.stretches.proofs.counter_date.days_of.Kinds as days-of-kinds
use Rattle.stretches.proofs.counter_date.days_of.Reads as days-of

pub days_of_has_one : Determines 0 days-of-kinds.ps days-of-kinds.r days-of.Post
days_of_has_one κs a x y e f = one_answer

-- and it asks nothing of its callers
pub days_of_asks_nothing : AsksNothing 0 days-of-kinds.ps days-of.requires
days_of_asks_nothing κs a = nothing_asked
