-- `fitting::cursors::fits_period` meets its contract.
-- Assumes nothing.
use borrow.Author.Tests.{le-leb, lt-leb}
use native.Mathlib.Omega.{arith}
use Rattle.fitting.specs.Fitting.{fits_period}
use Rattle.fitting.proofs.cursors.fits_period.Goals as goal

pub returns-then-opened-cursor : goal.returns-then-opened-cursor
unfolding fits_period
returns-then-opened-cursor c = rw (lt-leb c.args.cursor.place c.args.opened.now.period.kept c.if-opened-cursor.true)

pub returns : goal.returns
unfolding fits_period
returns c =
    rw (le-leb c.args.cursor.place c.args.opened.now.period.kept (omega (arith, c.if-opened-cursor.false)), c.is_due.ensures, c.next_second-next.ensures)
