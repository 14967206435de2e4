-- One answer: of each public function, two answers that its promise allows are one. `Post` is the promise as the source states it.
-- Assumes nothing.
use Rattle.calendar.proofs.AsksNothing.{AsksNothing, nothing_asked}
use Rattle.calendar.proofs.Determines.{Determines, one_answer}
use Rattle.ticks.proofs.counter_date.ticks_of.Kinds as ticks-of-kinds
use Rattle.ticks.proofs.counter_date.ticks_of.Reads as ticks-of
use Rattle.ticks.proofs.counter_date.find_tick.Kinds as find-tick-kinds
use Rattle.ticks.proofs.counter_date.find_tick.Reads as find-tick

pub ticks_of_has_one : Determines 0 ticks-of-kinds.ps ticks-of-kinds.r ticks-of.Post
ticks_of_has_one κs a x y e f = one_answer

pub find_tick_has_one : Determines 1 find-tick-kinds.ps find-tick-kinds.r find-tick.Post
find_tick_has_one κs a x y e f = one_answer

-- and none asks anything of its callers
pub ticks_of_asks_nothing : AsksNothing 0 ticks-of-kinds.ps ticks-of.requires
ticks_of_asks_nothing κs a = nothing_asked

pub find_tick_asks_nothing : AsksNothing 1 find-tick-kinds.ps find-tick.requires
find_tick_asks_nothing κs a = nothing_asked
