-- `nths::monthinfo::nth_passes` meets its contract.
-- Assumes nothing.
use mathlib.Core.Path.{sym}
use Rattle.nths.proofs.Slots.{nth_slots}
use Rattle.nths.proofs.monthinfo.nth_passes.Goals as goal

pub returns : goal.returns
returns c = let a = c.args in sym (nth_slots a.byday.now a.weekday a.place a.left c.requires.0 c.requires.1 c.requires.2 c.requires.3 c.requires.4)
