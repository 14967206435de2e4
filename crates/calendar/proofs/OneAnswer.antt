-- One answer: of each public function, two answers that its promise allows are one. `Post` is the promise as the source states it.
-- Assumes nothing.
use Rattle.calendar.proofs.AsksNothing.{AsksNothing, nothing_asked}
use Rattle.calendar.proofs.Determines.{Determines, one_answer}
use Rattle.calendar.proofs.utils.is_leap_year.Kinds as is-leap-year-kinds
use Rattle.calendar.proofs.utils.is_leap_year.Reads as is-leap-year
use Rattle.calendar.proofs.utils.get_year_len.Kinds as get-year-len-kinds
use Rattle.calendar.proofs.utils.get_year_len.Reads as get-year-len
use Rattle.calendar.proofs.utils.days_before_year.Kinds as days-before-year-kinds
use Rattle.calendar.proofs.utils.days_before_year.Reads as days-before-year
use Rattle.calendar.proofs.utils.weekday_of_new_year.Kinds as weekday-of-new-year-kinds
use Rattle.calendar.proofs.utils.weekday_of_new_year.Reads as weekday-of-new-year
use Rattle.calendar.proofs.utils.year_of_day.Kinds as year-of-day-kinds
use Rattle.calendar.proofs.utils.year_of_day.Reads as year-of-day

pub is_leap_year_has_one : Determines 0 is-leap-year-kinds.ps is-leap-year-kinds.r is-leap-year.Post
is_leap_year_has_one κs a x y e f = one_answer

pub get_year_len_has_one : Determines 0 get-year-len-kinds.ps get-year-len-kinds.r get-year-len.Post
get_year_len_has_one κs a x y e f = one_answer

pub days_before_year_has_one : Determines 0 days-before-year-kinds.ps days-before-year-kinds.r days-before-year.Post
days_before_year_has_one κs a x y e f = one_answer

pub weekday_of_new_year_has_one : Determines 0 weekday-of-new-year-kinds.ps weekday-of-new-year-kinds.r weekday-of-new-year.Post
weekday_of_new_year_has_one κs a x y e f = one_answer

pub year_of_day_has_one : Determines 0 year-of-day-kinds.ps year-of-day-kinds.r year-of-day.Post
year_of_day_has_one κs a x y e f = one_answer

-- and none asks anything of its callers
pub is_leap_year_asks_nothing : AsksNothing 0 is-leap-year-kinds.ps is-leap-year.requires
is_leap_year_asks_nothing κs a = nothing_asked

pub get_year_len_asks_nothing : AsksNothing 0 get-year-len-kinds.ps get-year-len.requires
get_year_len_asks_nothing κs a = nothing_asked

pub days_before_year_asks_nothing : AsksNothing 0 days-before-year-kinds.ps days-before-year.requires
days_before_year_asks_nothing κs a = nothing_asked

pub weekday_of_new_year_asks_nothing : AsksNothing 0 weekday-of-new-year-kinds.ps weekday-of-new-year.requires
weekday_of_new_year_asks_nothing κs a = nothing_asked

pub year_of_day_asks_nothing : AsksNothing 0 year-of-day-kinds.ps year-of-day.requires
year_of_day_asks_nothing κs a = nothing_asked
