-- `weeks::yearinfo::week_no_mask` meets its contract.
-- Assumes nothing.
use Prim.Native.Nat.{◌≤◌}
use Rattle.weeks.proofs.Masks.{Upto}
use Rattle.weeks.proofs.yearinfo.week_no_mask.Given as goal

abbrev pub invariant-loop-week : goal.invariant-loop-week
invariant-loop-week l = (l.week ≤ 55) × Upto l.wkst l.weeknos l.year l.weeks.skipped l.week l.mask
