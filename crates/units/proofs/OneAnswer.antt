-- One answer: of each public function, two answers that its promise allows are one. `Post` is the promise as the source states it.
-- Assumes nothing.
use Rattle.calendar.proofs.AsksNothing.{AsksNothing, nothing_asked}
use Rattle.calendar.proofs.Determines.{Determines, one_answer}
use Rattle.units.proofs.unit.unit_of.Kinds as unit-of-kinds
use Rattle.units.proofs.unit.unit_of.Reads as unit-of
use Rattle.units.proofs.year.covers.Kinds as covers-kinds
use Rattle.units.proofs.year.covers.Reads as covers
use Rattle.units.proofs.year.year_at.Kinds as year-at-kinds
use Rattle.units.proofs.year.year_at.Reads as year_at_lem

pub unit_of_has_one : Determines 0 unit-of-kinds.ps unit-of-kinds.r unit-of.Post
unit_of_has_one κs a x y e f = one_answer

pub covers_has_one : Determines 0 covers-kinds.ps covers-kinds.r covers.Post
covers_has_one κs a x y e f = one_answer

pub year_at_has_one : Determines 0 year-at-kinds.ps year-at-kinds.r year_at_lem.Post
year_at_has_one κs a x y e f = one_answer

-- and none asks anything of its callers
pub unit_of_asks_nothing : AsksNothing 0 unit-of-kinds.ps unit-of.requires
unit_of_asks_nothing κs a = nothing_asked

pub covers_asks_nothing : AsksNothing 0 covers-kinds.ps covers.requires
covers_asks_nothing κs a = nothing_asked

pub year_at_asks_nothing : AsksNothing 0 year-at-kinds.ps year_at_lem.requires
year_at_asks_nothing κs a = nothing_asked
