-- `cursor_layout::cursor::is_cursor_bytes` meets its contract.
-- Assumes nothing.
use Rattle.std.proofs.Common.{◌∙◌}
use borrow.Author.Tests.{ne_eqb}
use Rattle.edge.proofs.LayoutLaws.{cursor_length_lem, cursor_judged}
use Rattle.cursor_layout.proofs.cursor.is_cursor_bytes.Goals as goal

pub returns-then-bytes-eq-CURSOR_LENGTH : goal.returns-then-bytes-eq-CURSOR_LENGTH
returns-then-bytes-eq-CURSOR_LENGTH c = cursor_judged c.args.bytes.now c.if-bytes-eq-CURSOR_LENGTH.true

pub returns-else-bytes-eq-CURSOR_LENGTH : goal.returns-else-bytes-eq-CURSOR_LENGTH
returns-else-bytes-eq-CURSOR_LENGTH c =
    ne_eqb _ _ c.if-bytes-eq-CURSOR_LENGTH.false ∙ cursor_length_lem c.args.bytes.now c.if-bytes-eq-CURSOR_LENGTH.false
