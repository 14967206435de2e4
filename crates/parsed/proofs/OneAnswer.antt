-- One answer: two answers that the promise of `parsed` allows are one. `Post` is the promise as the source states it.
-- Assumes nothing.
use Rattle.calendar.proofs.AsksNothing.{AsksNothing, nothing_asked}
use Rattle.calendar.proofs.Determines.{Determines, one_answer}
use Rattle.parsed.proofs.parsed.Kinds as parsed-kinds
use Rattle.parsed.proofs.parsed.Reads as parsed

pub parsed_has_one : Determines 1 parsed-kinds.ps parsed-kinds.r parsed.Post
parsed_has_one κs a x y e f = one_answer

-- and it asks nothing of its callers
pub parsed_asks_nothing : AsksNothing 1 parsed-kinds.ps parsed.requires
parsed_asks_nothing κs a = nothing_asked
