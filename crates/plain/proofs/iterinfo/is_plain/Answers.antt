-- `plain::iterinfo::is_plain` meets its contract.
-- Assumes nothing.
use mathlib.Core.Path.{refl}
use Rattle.plain.proofs.iterinfo.is_plain.Goals as goal

pub returns : goal.returns
returns c = refl
