-- One answer: of each public function, two answers that its promise allows are one. `Post` is the promise as the source states it.
-- Assumes nothing.
use Rattle.calendar.proofs.AsksNothing.{AsksNothing, nothing_asked}
use Rattle.calendar.proofs.Determines.{Determines, one_answer}
use Rattle.years.proofs.lists.asked_lists.Kinds as asked-lists-kinds
use Rattle.years.proofs.lists.asked_lists.Reads as asked-lists
use Rattle.years.proofs.iterinfo.rebuild.Kinds as rebuild-kinds
use Rattle.years.proofs.iterinfo.rebuild.Reads as rebuild

pub asked_lists_has_one : Determines 1 asked-lists-kinds.ps asked-lists-kinds.r asked-lists.Post
asked_lists_has_one κs a x y e f = one_answer

pub rebuild_has_one : Determines 1 rebuild-kinds.ps rebuild-kinds.r rebuild.Post
rebuild_has_one κs a x y e f = one_answer

-- and none asks anything of its callers
pub asked_lists_asks_nothing : AsksNothing 1 asked-lists-kinds.ps asked-lists.requires
asked_lists_asks_nothing κs a = nothing_asked

pub rebuild_asks_nothing : AsksNothing 1 rebuild-kinds.ps rebuild.requires
rebuild_asks_nothing κs a = nothing_asked
