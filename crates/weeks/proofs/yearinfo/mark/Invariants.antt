-- `weeks::yearinfo::mark` meets its contract. The loop's invariant: what is marked so far, in the whole mask.
-- Assumes nothing.
use Prim.Native.Nat.{◌+◌, ◌-◌}
use borrow.Rule.Slice.PartMut.{put_mid}
use Rattle.weeks.specs.Weeks.{Marked}
use Rattle.weeks.proofs.yearinfo.mark.Given as goal

abbrev pub invariant-loop-flag : goal.invariant-loop-flag
invariant-loop-flag l = Marked l.from (l.from + l.flag-index) l.fn.mask (put_mid l.from (l.to - l.from) l.fn.mask l.flag-items)
