-- `cursor_layout::numbers::read_4` meets its contract.
-- Assumes nothing.
use native.Mathlib.Omega.{arith}
use Rattle.edge.specs.Bytes.{four_at}
use Rattle.cursor_layout.proofs.numbers.read_4.Goals as goal

pub returns : goal.returns
unfolding four_at
returns c = (omega arith, omega arith)
