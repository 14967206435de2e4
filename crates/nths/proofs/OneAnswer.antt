-- One answer: of each public function, two answers that its promise allows are one. `Post` is the promise as the source states it.
-- Assumes nothing.
use Rattle.calendar.proofs.AsksNothing.{AsksNothing, nothing_asked}
use Rattle.calendar.proofs.Determines.{Determines, one_answer}
use Rattle.nths.proofs.places.days_of.Kinds as days-of-kinds
use Rattle.nths.proofs.places.days_of.Reads as days-of
use Rattle.nths.proofs.places.year_day.Kinds as year-day-kinds
use Rattle.nths.proofs.places.year_day.Reads as year_day_lem
use Rattle.nths.proofs.places.year_day_from_end.Kinds as year-day-from-end-kinds
use Rattle.nths.proofs.places.year_day_from_end.Reads as year-day-from-end
use Rattle.nths.proofs.monthinfo.neg_weekday_mask.Kinds as neg-weekday-mask-kinds
use Rattle.nths.proofs.monthinfo.neg_weekday_mask.Reads as neg-weekday-mask

pub days_of_has_one : Determines 0 days-of-kinds.ps days-of-kinds.r days-of.Post
days_of_has_one κs a x y e f = one_answer

pub year_day_has_one : Determines 0 year-day-kinds.ps year-day-kinds.r year_day_lem.Post
year_day_has_one κs a x y e f = one_answer

pub year_day_from_end_has_one : Determines 0 year-day-from-end-kinds.ps year-day-from-end-kinds.r year-day-from-end.Post
year_day_from_end_has_one κs a x y e f = one_answer

pub neg_weekday_mask_has_one : Determines 1 neg-weekday-mask-kinds.ps neg-weekday-mask-kinds.r neg-weekday-mask.Post
neg_weekday_mask_has_one κs a x y e f = one_answer

-- and none asks anything of its callers
pub days_of_asks_nothing : AsksNothing 0 days-of-kinds.ps days-of.requires
days_of_asks_nothing κs a = nothing_asked

pub year_day_asks_nothing : AsksNothing 0 year-day-kinds.ps year_day_lem.requires
year_day_asks_nothing κs a = nothing_asked

pub year_day_from_end_asks_nothing : AsksNothing 0 year-day-from-end-kinds.ps year-day-from-end.requires
year_day_from_end_asks_nothing κs a = nothing_asked

pub neg_weekday_mask_asks_nothing : AsksNothing 1 neg-weekday-mask-kinds.ps neg-weekday-mask.requires
neg_weekday_mask_asks_nothing κs a = nothing_asked
