-- One answer: two answers that the promise of `answer_lines` allows are one. `Post` is the promise as the source states it.
-- Assumes nothing.
use Rattle.calendar.proofs.Determines.{Determines, one_answer}
use Rattle.answering.proofs.answer_lines.Kinds as answer-lines-kinds
use Rattle.answering.proofs.answer_lines.Reads as answer-lines

pub answer_lines_has_one : Determines 0 answer-lines-kinds.ps answer-lines-kinds.r answer-lines.Post
answer_lines_has_one κs a x y e f = one_answer
