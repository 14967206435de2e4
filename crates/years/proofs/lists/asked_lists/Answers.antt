-- `years::lists::asked_lists` meets its contract.
-- Assumes nothing.
use Rattle.years.specs.Info.{asked_of}
use Rattle.years.proofs.lists.asked_lists.Goals as goal

pub returns : goal.returns
unfolding asked_of
returns c = rw (c.has_nth.ensures, c.is_empty-5.ensures, c.is_empty-4.ensures, c.is_empty-3.ensures, c.is_empty-2.ensures, c.is_empty.ensures)
