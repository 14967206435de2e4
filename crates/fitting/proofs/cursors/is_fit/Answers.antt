-- `fitting::cursors::is_fit` meets its contract.
-- Assumes nothing.
use Rattle.fitting.specs.Fitting.{is_fit}
use Rattle.fitting.proofs.cursors.is_fit.Goals as goal

pub returns : goal.returns
unfolding is_fit
returns c = rw (c.fits_period.ensures, c.end_of-end.ensures)
