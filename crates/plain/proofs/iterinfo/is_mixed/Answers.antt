-- `plain::iterinfo::is_mixed` meets its contract.
-- Assumes nothing.
use mathlib.Core.Path.{refl}
use Rattle.plain.proofs.iterinfo.is_mixed.Goals as goal

pub returns : goal.returns
returns c = refl
