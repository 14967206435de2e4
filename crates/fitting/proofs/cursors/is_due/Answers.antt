-- `fitting::cursors::is_due` meets its contract.
-- Assumes nothing.
use Rattle.fitting.proofs.cursors.is_due.Goals as goal

pub returns : goal.returns
returns c = rw (c.is_below.ensures, c.saturating_sub.ensures)
