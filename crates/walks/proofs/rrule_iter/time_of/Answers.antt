-- `walks::rrule_iter::time_of` meets its contract.
-- Assumes nothing.
use native.Mathlib.Omega.{arith}
use Rattle.walks.proofs.SecondLaws.{time_below}
use Rattle.walks.proofs.rrule_iter.time_of.Goals as goal

pub returns-clause-small : goal.returns-clause-small
returns-clause-small c =
    let a = c.args in
    rw c.time_at.ensures (time_below a.frame.freq a.frame.begins a.frame.counts a.lists.now a.time c.fits-lists (omega arith))
