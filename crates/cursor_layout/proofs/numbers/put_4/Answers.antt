-- `cursor_layout::numbers::put_4` meets its contract.
-- Assumes nothing.
use Rattle.edge.proofs.ByteLaws.{four_halves}
use Rattle.cursor_layout.proofs.numbers.put_4.Goals as goal

pub returns : goal.returns
returns c = four_halves _ _ _ _ _ c.put_2.ensures c.put_2-2.ensures
