-- `basics::lists::has_nth` meets its contract.
-- Assumes nothing.
use Rattle.rule.specs.Records.{has_nth}
use Rattle.basics.proofs.lists.has_nth.Goals as goal

pub returns : goal.returns
unfolding has_nth
returns c = rw (c.is_empty-2.ensures, c.is_empty.ensures)
