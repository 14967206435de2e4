-- One answer: two answers that the promise of `number_at` allows are one. `Post` is the promise as the source states it.
-- Assumes nothing.
use Rattle.calendar.proofs.AsksNothing.{AsksNothing, nothing_asked}
use Rattle.calendar.proofs.Determines.{Determines, one_answer}
use Rattle.words.proofs.rows.number_at.Kinds as number-at-kinds
use Rattle.words.proofs.rows.number_at.Reads as number_at

pub number_at_has_one : Determines 1 number-at-kinds.ps number-at-kinds.r number_at.Post
number_at_has_one κs a x y e f = one_answer

pub number_at_asks_nothing : AsksNothing 1 number-at-kinds.ps number_at.requires
number_at_asks_nothing κs a = nothing_asked
