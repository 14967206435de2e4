-- One answer: of each public function, two answers that its promise allows are one. `Post` is the promise as the source states it.
-- Assumes nothing.
use Rattle.calendar.proofs.AsksNothing.{AsksNothing, nothing_asked}
use Rattle.calendar.proofs.Determines.{Determines, one_answer}
use Rattle.walks.proofs.rrule_iter.midnight_of.Kinds as midnight-of-kinds
use Rattle.walks.proofs.rrule_iter.midnight_of.Reads as midnight-of
use Rattle.walks.proofs.rrule_iter.is_framed.Kinds as is-framed-kinds
use Rattle.walks.proofs.rrule_iter.is_framed.Reads as is_framed
use Rattle.walks.proofs.rrule_iter.Candidates.second_on.Kinds as second-on-kinds
use Rattle.walks.proofs.rrule_iter.Candidates.second_on.Reads as second-on
use Rattle.walks.proofs.rrule_iter.Candidates.second_at.Kinds as second-at-kinds
use Rattle.walks.proofs.rrule_iter.Candidates.second_at.Reads as second_at
use Rattle.walks.proofs.rrule_iter.Candidates.candidate_at.Kinds as candidate-at-kinds
use Rattle.walks.proofs.rrule_iter.Candidates.candidate_at.Reads as candidate-at

pub midnight_of_has_one : Determines 1 midnight-of-kinds.ps midnight-of-kinds.r midnight-of.Post
midnight_of_has_one κs a x y e f p q = one_answer p.0 q.0

pub is_framed_has_one : Determines 0 is-framed-kinds.ps is-framed-kinds.r is_framed.Post
is_framed_has_one κs a x y e f p q = one_answer p q

pub second_on_has_one : Determines 2 second-on-kinds.ps second-on-kinds.r second-on.Post
second_on_has_one κs a x y e f p q = one_answer p q

pub second_at_has_one : Determines 2 second-at-kinds.ps second-at-kinds.r second_at.Post
second_at_has_one κs a x y e f p q = one_answer p q

pub candidate_at_has_one : Determines 2 candidate-at-kinds.ps candidate-at-kinds.r candidate-at.Post
candidate_at_has_one κs a x y e f p q = one_answer p q

-- and none asks anything of its callers
pub midnight_of_asks_nothing : AsksNothing 1 midnight-of-kinds.ps midnight-of.requires
midnight_of_asks_nothing κs a = nothing_asked

pub is_framed_asks_nothing : AsksNothing 0 is-framed-kinds.ps is_framed.requires
is_framed_asks_nothing κs a = nothing_asked

pub second_on_asks_nothing : AsksNothing 2 second-on-kinds.ps second-on.requires
second_on_asks_nothing κs a = nothing_asked

pub second_at_asks_nothing : AsksNothing 2 second-at-kinds.ps second_at.requires
second_at_asks_nothing κs a = nothing_asked

pub candidate_at_asks_nothing : AsksNothing 2 candidate-at-kinds.ps candidate-at.requires
candidate_at_asks_nothing κs a = nothing_asked
