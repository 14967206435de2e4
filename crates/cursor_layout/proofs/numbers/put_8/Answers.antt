-- `cursor_layout::numbers::put_8` meets its contract.
-- Assumes nothing.
use Rattle.edge.proofs.ByteLaws.{eight_halves}
use Rattle.cursor_layout.proofs.numbers.put_8.Goals as goal

pub returns : goal.returns
returns c = eight_halves _ _ _ _ _ c.put_4.ensures c.put_4-2.ensures
