-- One answer: of each public function, two answers that its promise allows are one. `Post` is the promise as the source states it.
-- Assumes nothing.
use Rattle.calendar.proofs.AsksNothing.{AsksNothing, nothing_asked}
use Rattle.calendar.proofs.Determines.{Determines, one_answer}
use Rattle.settling.proofs.rrule_iter.answer.Kinds as answer-kinds
use Rattle.settling.proofs.rrule_iter.answer.Reads as answer
use Rattle.settling.proofs.rrule_iter.ended.Kinds as ended-kinds
use Rattle.settling.proofs.rrule_iter.ended.Reads as ended
use Rattle.settling.proofs.rrule_iter.settle.Kinds as settle-kinds
use Rattle.settling.proofs.rrule_iter.settle.Reads as settle
use Rattle.settling.proofs.rrule_iter.held_at.Kinds as held-at-kinds
use Rattle.settling.proofs.rrule_iter.held_at.Reads as held_at
use Rattle.settling.proofs.rrule_iter.moved_to.Kinds as moved-to-kinds
use Rattle.settling.proofs.rrule_iter.moved_to.Reads as moved_to

pub answer_has_one : Determines 0 answer-kinds.ps answer-kinds.r answer.Post
answer_has_one κs a x y e f = one_answer

pub ended_has_one : Determines 0 ended-kinds.ps ended-kinds.r ended.Post
ended_has_one κs a x y e f = one_answer

pub settle_has_one : Determines 0 settle-kinds.ps settle-kinds.r settle.Post
settle_has_one κs a x y e f = one_answer

pub held_at_has_one : Determines 0 held-at-kinds.ps held-at-kinds.r held_at.Post
held_at_has_one κs a x y e f = one_answer

pub moved_to_has_one : Determines 0 moved-to-kinds.ps moved-to-kinds.r moved_to.Post
moved_to_has_one κs a x y e f = one_answer

-- and none asks anything of its callers
pub answer_asks_nothing : AsksNothing 0 answer-kinds.ps answer.requires
answer_asks_nothing κs a = nothing_asked

pub ended_asks_nothing : AsksNothing 0 ended-kinds.ps ended.requires
ended_asks_nothing κs a = nothing_asked

pub settle_asks_nothing : AsksNothing 0 settle-kinds.ps settle.requires
settle_asks_nothing κs a = nothing_asked

pub held_at_asks_nothing : AsksNothing 0 held-at-kinds.ps held_at.requires
held_at_asks_nothing κs a = nothing_asked

pub moved_to_asks_nothing : AsksNothing 0 moved-to-kinds.ps moved_to.requires
moved_to_asks_nothing κs a = nothing_asked
