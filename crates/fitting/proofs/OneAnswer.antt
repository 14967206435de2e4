-- One answer: two answers that the promise of `is_fit` allows are one. `Post` is the promise as the source states it.
-- Assumes nothing.
use Rattle.calendar.proofs.AsksNothing.{AsksNothing, nothing_asked}
use Rattle.calendar.proofs.Determines.{Determines, one_answer}
use Rattle.fitting.proofs.cursors.is_fit.Kinds as is-fit-kinds
use Rattle.fitting.proofs.cursors.is_fit.Reads as is-fit

pub is_fit_has_one : Determines 2 is-fit-kinds.ps is-fit-kinds.r is-fit.Post
is_fit_has_one κs a x y e f = one_answer

-- and it asks nothing of its callers
pub is_fit_asks_nothing : AsksNothing 2 is-fit-kinds.ps is-fit.requires
is_fit_asks_nothing κs a = nothing_asked
