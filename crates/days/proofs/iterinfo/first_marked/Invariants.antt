-- `days::iterinfo::first_marked` meets its contract.
-- Assumes nothing.
use Rattle.days.proofs.Blanks.{Searched}
use Rattle.days.proofs.iterinfo.first_marked.Given as goal

abbrev pub invariant-loop-at : goal.invariant-loop-at
invariant-loop-at l = Searched l.marks l.from l.to l.at
