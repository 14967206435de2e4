-- One answer: of each public function, two answers that its promise allows are one. `Post` is the promise as the source states it.
-- Assumes nothing.
use Rattle.calendar.proofs.AsksNothing.{AsksNothing, nothing_asked}
use Rattle.calendar.proofs.Determines.{Determines, one_answer}
use Rattle.basics.proofs.faults.fault_number.Kinds as fault-number-kinds
use Rattle.basics.proofs.faults.fault_number.Reads as fault-number
use Rattle.basics.proofs.faults.refused.Kinds as refused-kinds
use Rattle.basics.proofs.faults.refused.Reads as refused
use Rattle.basics.proofs.lists.is_empty.Kinds as is-empty-kinds
use Rattle.basics.proofs.lists.is_empty.Reads as is-empty
use Rattle.basics.proofs.lists.has_nth.Kinds as has-nth-kinds
use Rattle.basics.proofs.lists.has_nth.Reads as has-nth
use Rattle.basics.proofs.rrule.frequency_of.Kinds as frequency-of-kinds
use Rattle.basics.proofs.rrule.frequency_of.Reads as frequency-of
use Rattle.basics.proofs.rrule.is_until_out.Kinds as is-until-out-kinds
use Rattle.basics.proofs.rrule.is_until_out.Reads as is-until-out
use Rattle.basics.proofs.rrule.frequency_number.Kinds as frequency-number-kinds
use Rattle.basics.proofs.rrule.frequency_number.Reads as frequency-number
use Rattle.basics.proofs.rrule.refusal_number.Kinds as refusal-number-kinds
use Rattle.basics.proofs.rrule.refusal_number.Reads as refusal-number
use Rattle.basics.proofs.rrule.has_nought.Kinds as has-nought-kinds
use Rattle.basics.proofs.rrule.has_nought.Reads as has-nought
use Rattle.basics.proofs.rrule.count_and_until.Kinds as count-and-until-kinds
use Rattle.basics.proofs.rrule.count_and_until.Reads as count_and_until_lem
use Rattle.basics.proofs.rrule.is_misplaced.Kinds as is-misplaced-kinds
use Rattle.basics.proofs.rrule.is_misplaced.Reads as is-misplaced
use Rattle.basics.proofs.rrule.fresh.Kinds as fresh-kinds
use Rattle.basics.proofs.rrule.fresh.Reads as fresh

pub fault_number_has_one : Determines 0 fault-number-kinds.ps fault-number-kinds.r fault-number.Post
fault_number_has_one κs a x y e f = one_answer

pub refused_has_one : Determines 0 refused-kinds.ps refused-kinds.r refused.Post
refused_has_one κs a x y e f = one_answer

pub refusal_number_has_one : Determines 0 refusal-number-kinds.ps refusal-number-kinds.r refusal-number.Post
refusal_number_has_one κs a x y e f = one_answer

pub has_nought_has_one : Determines 0 has-nought-kinds.ps has-nought-kinds.r has-nought.Post
has_nought_has_one κs a x y e f = one_answer

pub count_and_until_has_one : Determines 0 count-and-until-kinds.ps count-and-until-kinds.r count_and_until_lem.Post
count_and_until_has_one κs a x y e f = one_answer

pub is_misplaced_has_one : Determines 0 is-misplaced-kinds.ps is-misplaced-kinds.r is-misplaced.Post
is_misplaced_has_one κs a x y e f = one_answer

pub fresh_has_one : Determines 1 fresh-kinds.ps fresh-kinds.r fresh.Post
fresh_has_one κs a x y e f = one_answer

pub frequency_number_has_one : Determines 0 frequency-number-kinds.ps frequency-number-kinds.r frequency-number.Post
frequency_number_has_one κs a x y e f = one_answer

pub is_empty_has_one : Determines 1 is-empty-kinds.ps is-empty-kinds.r is-empty.Post
is_empty_has_one κs a x y e f = one_answer

pub has_nth_has_one : Determines 1 has-nth-kinds.ps has-nth-kinds.r has-nth.Post
has_nth_has_one κs a x y e f = one_answer

pub frequency_of_has_one : Determines 0 frequency-of-kinds.ps frequency-of-kinds.r frequency-of.Post
frequency_of_has_one κs a x y e f = one_answer

pub is_until_out_has_one : Determines 0 is-until-out-kinds.ps is-until-out-kinds.r is-until-out.Post
is_until_out_has_one κs a x y e f = one_answer

-- and none asks anything of its callers
pub fault_number_asks_nothing : AsksNothing 0 fault-number-kinds.ps fault-number.requires
fault_number_asks_nothing κs a = nothing_asked

pub refused_asks_nothing : AsksNothing 0 refused-kinds.ps refused.requires
refused_asks_nothing κs a = nothing_asked

pub refusal_number_asks_nothing : AsksNothing 0 refusal-number-kinds.ps refusal-number.requires
refusal_number_asks_nothing κs a = nothing_asked

pub has_nought_asks_nothing : AsksNothing 0 has-nought-kinds.ps has-nought.requires
has_nought_asks_nothing κs a = nothing_asked

pub count_and_until_asks_nothing : AsksNothing 0 count-and-until-kinds.ps count_and_until_lem.requires
count_and_until_asks_nothing κs a = nothing_asked

pub is_misplaced_asks_nothing : AsksNothing 0 is-misplaced-kinds.ps is-misplaced.requires
is_misplaced_asks_nothing κs a = nothing_asked

pub fresh_asks_nothing : AsksNothing 1 fresh-kinds.ps fresh.requires
fresh_asks_nothing κs a = nothing_asked

pub frequency_number_asks_nothing : AsksNothing 0 frequency-number-kinds.ps frequency-number.requires
frequency_number_asks_nothing κs a = nothing_asked

pub is_empty_asks_nothing : AsksNothing 1 is-empty-kinds.ps is-empty.requires
is_empty_asks_nothing κs a = nothing_asked

pub has_nth_asks_nothing : AsksNothing 1 has-nth-kinds.ps has-nth.requires
has_nth_asks_nothing κs a = nothing_asked

pub frequency_of_asks_nothing : AsksNothing 0 frequency-of-kinds.ps frequency-of.requires
frequency_of_asks_nothing κs a = nothing_asked

pub is_until_out_asks_nothing : AsksNothing 0 is-until-out-kinds.ps is-until-out.requires
is_until_out_asks_nothing κs a = nothing_asked
