-- `days::filters::is_filtered_on` meets its contract.
-- Assumes nothing.
use mathlib.Core.Path.{refl}
use Rattle.days.proofs.filters.is_filtered_on.Goals as goal

pub returns : goal.returns
returns c = refl
