-- `weeks::yearinfo::number_passes` meets its contract.
-- Assumes nothing.
use mathlib.Core.Path.{refl}
use Rattle.weeks.specs.Weeks.{slots_pass}
use Rattle.weeks.proofs.yearinfo.number_passes.Goals as goal

pub returns : goal.returns
unfolding slots_pass
returns c = refl
