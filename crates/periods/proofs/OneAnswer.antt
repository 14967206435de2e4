-- One answer: of each public function, two answers that its promise allows are one. `Post` is the promise as the source states it.
-- Assumes nothing.
use Rattle.calendar.proofs.AsksNothing.{AsksNothing, nothing_asked}
use Rattle.calendar.proofs.Determines.{Determines, one_answer}
use Rattle.periods.proofs.counter_date.counter_at.Kinds as counter-at-kinds
use Rattle.periods.proofs.counter_date.counter_at.Reads as counter-at
use Rattle.periods.proofs.counter_date.in_range.Kinds as in-range-kinds
use Rattle.periods.proofs.counter_date.in_range.Reads as in-range
use Rattle.periods.proofs.counter_date.step_of.Kinds as step-of-kinds
use Rattle.periods.proofs.counter_date.step_of.Reads as step-of
use Rattle.periods.proofs.counter_date.limit_of.Kinds as limit-of-kinds
use Rattle.periods.proofs.counter_date.limit_of.Reads as limit-of

pub counter_at_has_one : Determines 0 counter-at-kinds.ps counter-at-kinds.r counter-at.Post
counter_at_has_one κs a x y e f = one_answer

pub in_range_has_one : Determines 0 in-range-kinds.ps in-range-kinds.r in-range.Post
in_range_has_one κs a x y e f = one_answer

pub step_of_has_one : Determines 0 step-of-kinds.ps step-of-kinds.r step-of.Post
step_of_has_one κs a x y e f = one_answer

pub limit_of_has_one : Determines 0 limit-of-kinds.ps limit-of-kinds.r limit-of.Post
limit_of_has_one κs a x y e f = one_answer

-- and none asks anything of its callers
pub counter_at_asks_nothing : AsksNothing 0 counter-at-kinds.ps counter-at.requires
counter_at_asks_nothing κs a = nothing_asked

pub in_range_asks_nothing : AsksNothing 0 in-range-kinds.ps in-range.requires
in_range_asks_nothing κs a = nothing_asked

pub step_of_asks_nothing : AsksNothing 0 step-of-kinds.ps step-of.requires
step_of_asks_nothing κs a = nothing_asked

pub limit_of_asks_nothing : AsksNothing 0 limit-of-kinds.ps limit-of.requires
limit_of_asks_nothing κs a = nothing_asked
