-- `cursor_layout::cursor::decode_cursor` meets its contract.
-- Assumes nothing.
use Rattle.std.proofs.Common.{sym, ap, ◌∙◌}
use Rattle.edge.specs.Layout.{cursor_in}
use Rattle.edge.proofs.EdgeLaws.{cursor_size, no_cursor, cursor_held}
use Rattle.cursor_layout.proofs.LengthLaws.{of_length_lem}
use Rattle.cursor_layout.proofs.cursor.decode_cursor.Goals as goal

pub returns-then-is_cursor_bytes : goal.returns-then-is_cursor_bytes
returns-then-is_cursor_bytes c =
    let held = sym c.is_cursor_bytes.ensures ∙ c.if-is_cursor_bytes.true in
    sym (cursor_held c.args.bytes.now _ held (c.cursor_in.ensures ∙ ap cursor_in (of_length_lem 22 _ (cursor_size c.args.bytes.now held))))

pub returns-else-is_cursor_bytes : goal.returns-else-is_cursor_bytes
returns-else-is_cursor_bytes c = sym (no_cursor c.args.bytes.now (sym c.is_cursor_bytes.ensures ∙ c.if-is_cursor_bytes.false))
