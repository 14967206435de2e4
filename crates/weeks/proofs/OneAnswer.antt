-- One answer: of each public function, two answers that its promise allows are one. `Post` is the promise as the source states it.
-- Assumes nothing.
use Rattle.calendar.proofs.AsksNothing.{AsksNothing, nothing_asked}
use Rattle.calendar.proofs.Determines.{Determines, one_answer}
use Rattle.weeks.proofs.yearinfo.year_info.Kinds as year-info-kinds
use Rattle.weeks.proofs.yearinfo.year_info.Reads as year-info
use Rattle.weeks.proofs.yearinfo.week_no_mask.Kinds as week-no-mask-kinds
use Rattle.weeks.proofs.yearinfo.week_no_mask.Reads as week-no-mask

pub year_info_has_one : Determines 0 year-info-kinds.ps year-info-kinds.r year-info.Post
year_info_has_one κs a x y e f = one_answer

pub week_no_mask_has_one : Determines 1 week-no-mask-kinds.ps week-no-mask-kinds.r week-no-mask.Post
week_no_mask_has_one κs a x y e f = one_answer

-- and none asks anything of its callers
pub year_info_asks_nothing : AsksNothing 0 year-info-kinds.ps year-info.requires
year_info_asks_nothing κs a = nothing_asked

pub week_no_mask_asks_nothing : AsksNothing 1 week-no-mask-kinds.ps week-no-mask.requires
week_no_mask_asks_nothing κs a = nothing_asked
