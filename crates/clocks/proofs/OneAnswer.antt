-- One answer: of each public function, two answers that its promise allows are one. `Post` is the promise as the source states it.
-- Assumes nothing.
use Rattle.calendar.proofs.AsksNothing.{AsksNothing, nothing_asked}
use Rattle.calendar.proofs.Determines.{Determines, one_answer}
use Rattle.clocks.proofs.iterinfo.get_clock.Kinds as get-clock-kinds
use Rattle.clocks.proofs.iterinfo.get_clock.Reads as get-clock
use Rattle.clocks.proofs.iterinfo.get_timeset.Kinds as get-timeset-kinds
use Rattle.clocks.proofs.iterinfo.get_timeset.Reads as get-timeset

pub get_clock_has_one : Determines 1 get-clock-kinds.ps get-clock-kinds.r get-clock.Post
get_clock_has_one κs a x y e f = one_answer

pub get_timeset_has_one : Determines 1 get-timeset-kinds.ps get-timeset-kinds.r get-timeset.Post
get_timeset_has_one κs a x y e f = one_answer

-- and none asks anything of its callers
pub get_clock_asks_nothing : AsksNothing 1 get-clock-kinds.ps get-clock.requires
get_clock_asks_nothing κs a = nothing_asked

pub get_timeset_asks_nothing : AsksNothing 1 get-timeset-kinds.ps get-timeset.requires
get_timeset_asks_nothing κs a = nothing_asked
