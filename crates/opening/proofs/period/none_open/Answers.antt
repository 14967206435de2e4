-- `opening::period::none_open` meets its contract.
-- Assumes nothing.
use Rattle.opening.specs.Opening.{none_open}
use Rattle.opening.proofs.period.none_open.Goals as goal

pub returns : goal.returns
unfolding none_open
returns c = rw c.none_kept.ensures
