-- `fitting::cursors::next_second` meets its contract.
-- Assumes nothing.
use borrow.Author.Tests.{lt-ltb, le-ltb}
use native.Mathlib.Omega.{arith}
use Rattle.fitting.specs.Fitting.{next_of}
use Rattle.fitting.proofs.cursors.next_second.Goals as goal

pub returns-then-opened-i : goal.returns-then-opened-i
unfolding next_of
returns-then-opened-i c = rw (le-ltb c.args.i c.args.opened.now.period.kept c.if-opened-i.true)

pub returns : goal.returns
unfolding next_of
returns c =
    rw (lt-ltb c.args.i c.args.opened.now.period.kept (omega (arith, c.if-opened-i.false)), c.candidate_at.ensures, c.candidate_of-number.ensures)
