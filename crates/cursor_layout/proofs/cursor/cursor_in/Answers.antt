-- `cursor_layout::cursor::cursor_in` meets its contract.
-- Assumes nothing.
use mathlib.Core.Path.{sym, ap, ◌∙◌}
use Rattle.edge.specs.Layout.{cursor_in}
use Rattle.edge.proofs.LayoutLaws.{cursor_read}
use Rattle.cursor_layout.proofs.LengthLaws.{of_length_lem, of_other_length}
use Rattle.cursor_layout.proofs.cursor.cursor_in.Goals as goal

pub returns-then-bytes-ne-CURSOR_LENGTH : goal.returns-then-bytes-ne-CURSOR_LENGTH
unfolding cursor_in
returns-then-bytes-ne-CURSOR_LENGTH c = ap cursor_in (sym (of_other_length 22 _ c.if-bytes-ne-CURSOR_LENGTH.true))

pub returns : goal.returns
returns c =
    cursor_read _ _ _ _ _ c.state_of.ensures c.read_8.ensures c.read_4.ensures.0 c.read_8-2.ensures
    ∙ ap cursor_in (sym (of_length_lem 22 _ c.if-bytes-ne-CURSOR_LENGTH.false))
