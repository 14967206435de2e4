-- `cursor_layout::numbers::read_8` meets its contract.
-- Assumes nothing.
use native.Mathlib.Omega.{arith}
use Rattle.edge.specs.Bytes.{eight_at}
use Rattle.cursor_layout.proofs.numbers.read_8.Goals as goal

pub returns : goal.returns
unfolding eight_at
returns c = omega arith
