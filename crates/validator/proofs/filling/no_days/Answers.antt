-- `validator::filling::no_days` meets its contract.
-- Assumes nothing.
use Rattle.rule.specs.Filling.{no_days}
use Rattle.validator.proofs.filling.no_days.Goals as goal

pub returns : goal.returns
unfolding no_days
returns c = rw (c.is_empty-4.ensures, c.is_empty-3.ensures, c.is_empty-2.ensures, c.is_empty.ensures)
