-- `cursor_layout::numbers::read_2` meets its contract.
-- Assumes nothing.
use native.Mathlib.Omega.{arith}
use Rattle.edge.specs.Bytes.{two_at}
use Rattle.cursor_layout.proofs.numbers.read_2.Goals as goal

pub returns : goal.returns
unfolding two_at
returns c = (omega arith, omega arith)
