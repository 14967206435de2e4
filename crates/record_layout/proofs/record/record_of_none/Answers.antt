-- `record_layout::record::record_of_none` meets its contract.
-- Assumes nothing.
use mathlib.Core.Path.{refl}
use Rattle.edge.specs.Layout.{record_in}
use Rattle.record_layout.proofs.record.record_of_none.Goals as goal

pub returns : goal.returns
unfolding record_in
returns c = refl
