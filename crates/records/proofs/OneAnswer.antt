-- One answer: two answers that the promise of `is_record` allows are one. `Post` is the promise as the source states it.
-- Assumes nothing.
use Rattle.calendar.proofs.AsksNothing.{AsksNothing, nothing_asked}
use Rattle.calendar.proofs.Determines.{Determines, one_answer}
use Rattle.records.proofs.is_record.Kinds as is-record-kinds
use Rattle.records.proofs.is_record.Reads as is_record

pub is_record_has_one : Determines 1 is-record-kinds.ps is-record-kinds.r is_record.Post
is_record_has_one κs a x y e f = one_answer

-- and it asks nothing of its callers
pub is_record_asks_nothing : AsksNothing 1 is-record-kinds.ps is_record.requires
is_record_asks_nothing κs a = nothing_asked
