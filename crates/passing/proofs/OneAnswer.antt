-- One answer: of each public function, two answers that its promise allows are one. `Post` is the promise as the source states it.
-- Assumes nothing.
use Rattle.calendar.proofs.AsksNothing.{AsksNothing, nothing_asked}
use Rattle.calendar.proofs.Determines.{Determines, one_answer}
use Rattle.passing.proofs.rrule_iter.is_late.Kinds as is-late-kinds
use Rattle.passing.proofs.rrule_iter.is_late.Reads as is_late
use Rattle.passing.proofs.rrule_iter.is_reached.Kinds as is-reached-kinds
use Rattle.passing.proofs.rrule_iter.is_reached.Reads as is-reached
use Rattle.passing.proofs.rrule_iter.is_ready.Kinds as is-ready-kinds
use Rattle.passing.proofs.rrule_iter.is_ready.Reads as is_ready_lem
use Rattle.passing.proofs.rrule_iter.pass_days.Kinds as pass-days-kinds
use Rattle.passing.proofs.rrule_iter.pass_days.Reads as pass-days

pub is_late_has_one : Determines 0 is-late-kinds.ps is-late-kinds.r is_late.Post
is_late_has_one κs a x y e f p q = one_answer p q

pub is_reached_has_one : Determines 0 is-reached-kinds.ps is-reached-kinds.r is-reached.Post
is_reached_has_one κs a x y e f p q = one_answer p q

pub is_ready_has_one : Determines 0 is-ready-kinds.ps is-ready-kinds.r is_ready_lem.Post
is_ready_has_one κs a x y e f p q = one_answer p q

pub pass_days_has_one : Determines 1 pass-days-kinds.ps pass-days-kinds.r pass-days.Post
pass_days_has_one κs a x y e f p q = one_answer p q

-- and none asks anything of its callers
pub is_late_asks_nothing : AsksNothing 0 is-late-kinds.ps is_late.requires
is_late_asks_nothing κs a = nothing_asked

pub is_reached_asks_nothing : AsksNothing 0 is-reached-kinds.ps is-reached.requires
is_reached_asks_nothing κs a = nothing_asked

pub is_ready_asks_nothing : AsksNothing 0 is-ready-kinds.ps is_ready_lem.requires
is_ready_asks_nothing κs a = nothing_asked

pub pass_days_asks_nothing : AsksNothing 1 pass-days-kinds.ps pass-days.requires
pass_days_asks_nothing κs a = nothing_asked
