-- One answer: two answers that the promise of `plan_of` allows are one. `Post` is the promise as the source states it.
-- Assumes nothing.
use Rattle.calendar.proofs.AsksNothing.{AsksNothing, nothing_asked}
use Rattle.calendar.proofs.Determines.{Determines, one_answer}
use Rattle.plans.proofs.plan.plan_of.Kinds as plan-of-kinds
use Rattle.plans.proofs.plan.plan_of.Reads as plan-of

pub plan_of_has_one : Determines 1 plan-of-kinds.ps plan-of-kinds.r plan-of.Post
plan_of_has_one κs a x y e f = one_answer

-- and it asks nothing of its callers
pub plan_of_asks_nothing : AsksNothing 1 plan-of-kinds.ps plan-of.requires
plan_of_asks_nothing κs a = nothing_asked
