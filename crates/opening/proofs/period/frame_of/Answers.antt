-- `opening::period::frame_of` meets its contract.
-- Assumes nothing.
use Rattle.opening.specs.Opening.{frame_of}
use Rattle.opening.proofs.period.frame_of.Goals as goal

pub returns : goal.returns
unfolding frame_of
returns c = rw (c.times_len.ensures, c.open_times-open.ensures, c.second_of_tick-begins.ensures)
