-- `cursor_layout::numbers::put_1` meets its contract.
-- Assumes nothing.
use mathlib.Core.Path.{refl, sym}
use Rattle.cursor_layout.proofs.LengthLaws.{set_behind}
use Rattle.cursor_layout.proofs.numbers.put_1.Goals as goal

pub returns-then-at-bytes : goal.returns-then-at-bytes
returns-then-at-bytes c = refl

pub returns-else-at-bytes : goal.returns-else-at-bytes
returns-else-at-bytes c = sym (set_behind _ _ _ c.if-at-bytes.false)
