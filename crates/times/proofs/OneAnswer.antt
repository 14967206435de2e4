-- One answer: of each public function, two answers that its promise allows are one. `Post` is the promise as the source states it.
-- Assumes nothing.
use Rattle.calendar.proofs.AsksNothing.{AsksNothing, nothing_asked}
use Rattle.calendar.proofs.Determines.{Determines, one_answer}
use Rattle.times.proofs.iterinfo.open_times.Kinds as open-times-kinds
use Rattle.times.proofs.iterinfo.open_times.Reads as open-times
use Rattle.times.proofs.iterinfo.times_len.Kinds as times-len-kinds
use Rattle.times.proofs.iterinfo.times_len.Reads as times-len
use Rattle.times.proofs.iterinfo.time_at.Kinds as time-at-kinds
use Rattle.times.proofs.iterinfo.time_at.Reads as time-at
use Rattle.times.proofs.iterinfo.quotient.Kinds as quotient-kinds
use Rattle.times.proofs.iterinfo.quotient.Reads as quotient

pub open_times_has_one : Determines 1 open-times-kinds.ps open-times-kinds.r open-times.Post
open_times_has_one κs a x y e f = one_answer

pub times_len_has_one : Determines 0 times-len-kinds.ps times-len-kinds.r times-len.Post
times_len_has_one κs a x y e f = one_answer

pub time_at_has_one : Determines 1 time-at-kinds.ps time-at-kinds.r time-at.Post
time_at_has_one κs a x y e f = one_answer

pub quotient_has_one : Determines 0 quotient-kinds.ps quotient-kinds.r quotient.Post
quotient_has_one κs a x y e f = one_answer

-- and none asks anything of its callers
pub open_times_asks_nothing : AsksNothing 1 open-times-kinds.ps open-times.requires
open_times_asks_nothing κs a = nothing_asked

pub times_len_asks_nothing : AsksNothing 0 times-len-kinds.ps times-len.requires
times_len_asks_nothing κs a = nothing_asked

pub time_at_asks_nothing : AsksNothing 1 time-at-kinds.ps time-at.requires
time_at_asks_nothing κs a = nothing_asked

pub quotient_asks_nothing : AsksNothing 0 quotient-kinds.ps quotient.requires
quotient_asks_nothing κs a = nothing_asked
