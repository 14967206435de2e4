-- One answer: of each public function, two answers that its promise allows are one. `Post` is the promise as the source states it.
-- Assumes nothing.
use Rattle.calendar.proofs.AsksNothing.{AsksNothing, nothing_asked}
use Rattle.calendar.proofs.Determines.{Determines, one_answer}
use Rattle.dates.proofs.masks.month_at.Kinds as month-at-kinds
use Rattle.dates.proofs.masks.month_at.Reads as month-at
use Rattle.dates.proofs.masks.month_day_at.Kinds as month-day-at-kinds
use Rattle.dates.proofs.masks.month_day_at.Reads as month-day-at
use Rattle.dates.proofs.masks.month_day_from_end_at.Kinds as month-day-from-end-at-kinds
use Rattle.dates.proofs.masks.month_day_from_end_at.Reads as month-day-from-end-at
use Rattle.dates.proofs.masks.month_table.Kinds as month-table-kinds
use Rattle.dates.proofs.masks.month_table.Reads as month-table
use Rattle.dates.proofs.masks.month_day_table.Kinds as month-day-table-kinds
use Rattle.dates.proofs.masks.month_day_table.Reads as month-day-table
use Rattle.dates.proofs.masks.month_day_from_end_table.Kinds as month-day-from-end-table-kinds
use Rattle.dates.proofs.masks.month_day_from_end_table.Reads as month-day-from-end-table
use Rattle.dates.proofs.masks.days_before_month.Kinds as days-before-month-kinds
use Rattle.dates.proofs.masks.days_before_month.Reads as days-before-month
use Rattle.dates.proofs.utils.date_from_ordinal.Kinds as date-from-ordinal-kinds
use Rattle.dates.proofs.utils.date_from_ordinal.Reads as date-from-ordinal
use Rattle.dates.proofs.utils.day_of_date.Kinds as day-of-date-kinds
use Rattle.dates.proofs.utils.day_of_date.Reads as day-of-date

pub month_at_has_one : Determines 0 month-at-kinds.ps month-at-kinds.r month-at.Post
month_at_has_one κs a x y e f = one_answer

pub month_day_at_has_one : Determines 0 month-day-at-kinds.ps month-day-at-kinds.r month-day-at.Post
month_day_at_has_one κs a x y e f = one_answer

pub month_day_from_end_at_has_one : Determines 0 month-day-from-end-at-kinds.ps month-day-from-end-at-kinds.r month-day-from-end-at.Post
month_day_from_end_at_has_one κs a x y e f = one_answer

pub month_table_has_one : Determines 0 month-table-kinds.ps month-table-kinds.r month-table.Post
month_table_has_one κs a x y e f = one_answer

pub month_day_table_has_one : Determines 0 month-day-table-kinds.ps month-day-table-kinds.r month-day-table.Post
month_day_table_has_one κs a x y e f = one_answer

pub month_day_from_end_table_has_one : Determines 0 month-day-from-end-table-kinds.ps month-day-from-end-table-kinds.r month-day-from-end-table.Post
month_day_from_end_table_has_one κs a x y e f = one_answer

pub days_before_month_has_one : Determines 0 days-before-month-kinds.ps days-before-month-kinds.r days-before-month.Post
days_before_month_has_one κs a x y e f = one_answer

pub date_from_ordinal_has_one : Determines 0 date-from-ordinal-kinds.ps date-from-ordinal-kinds.r date-from-ordinal.Post
date_from_ordinal_has_one κs a x y e f = one_answer

pub day_of_date_has_one : Determines 0 day-of-date-kinds.ps day-of-date-kinds.r day-of-date.Post
day_of_date_has_one κs a x y e f = one_answer

-- and none asks anything of its callers
pub month_at_asks_nothing : AsksNothing 0 month-at-kinds.ps month-at.requires
month_at_asks_nothing κs a = nothing_asked

pub month_day_at_asks_nothing : AsksNothing 0 month-day-at-kinds.ps month-day-at.requires
month_day_at_asks_nothing κs a = nothing_asked

pub month_day_from_end_at_asks_nothing : AsksNothing 0 month-day-from-end-at-kinds.ps month-day-from-end-at.requires
month_day_from_end_at_asks_nothing κs a = nothing_asked

pub month_table_asks_nothing : AsksNothing 0 month-table-kinds.ps month-table.requires
month_table_asks_nothing κs a = nothing_asked

pub month_day_table_asks_nothing : AsksNothing 0 month-day-table-kinds.ps month-day-table.requires
month_day_table_asks_nothing κs a = nothing_asked

pub month_day_from_end_table_asks_nothing : AsksNothing 0 month-day-from-end-table-kinds.ps month-day-from-end-table.requires
month_day_from_end_table_asks_nothing κs a = nothing_asked

pub days_before_month_asks_nothing : AsksNothing 0 days-before-month-kinds.ps days-before-month.requires
days_before_month_asks_nothing κs a = nothing_asked

pub date_from_ordinal_asks_nothing : AsksNothing 0 date-from-ordinal-kinds.ps date-from-ordinal.requires
date_from_ordinal_asks_nothing κs a = nothing_asked

pub day_of_date_asks_nothing : AsksNothing 0 day-of-date-kinds.ps day-of-date.requires
day_of_date_asks_nothing κs a = nothing_asked
