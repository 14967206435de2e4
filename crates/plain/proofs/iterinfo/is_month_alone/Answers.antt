-- `plain::iterinfo::is_month_alone` meets its contract.
-- Assumes nothing.
use mathlib.Core.Path.{refl}
use Rattle.plain.proofs.iterinfo.is_month_alone.Goals as goal

pub returns : goal.returns
returns c = refl
