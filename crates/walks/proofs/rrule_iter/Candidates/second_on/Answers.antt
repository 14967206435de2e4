-- `walks::rrule_iter::Candidates::second_on` meets its contract.
-- Assumes nothing.
use Rattle.walks.specs.Walks.{second_on}
use Rattle.walks.proofs.rrule_iter.Candidates.second_on.Goals as goal

pub returns : goal.returns
unfolding second_on
returns c = rw (c.midnight_of.ensures.is, c.time_of.ensures.is)
