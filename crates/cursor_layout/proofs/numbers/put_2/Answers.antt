-- `cursor_layout::numbers::put_2` meets its contract.
-- Assumes nothing.
use Rattle.edge.proofs.ByteLaws.{two_halves}
use Rattle.cursor_layout.proofs.numbers.put_2.Goals as goal

pub returns : goal.returns
returns c = two_halves _ _ _ _ _ c.put_1.ensures c.put_1-2.ensures
