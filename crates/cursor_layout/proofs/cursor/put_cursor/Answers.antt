-- `cursor_layout::cursor::put_cursor` meets its contract.
-- Assumes nothing.
use mathlib.Core.Path.{ap, ◌∙◌}
use mathlib.Core.List.{List}
use mathlib.Core.Bool.{true}
use Prim.Native.Nat.{ℕ}
use Rattle.edge.proofs.LayoutLaws.{cursor_put}
use Rattle.cursor_layout.specs.Lengths.{put}
use Rattle.cursor_layout.proofs.LengthLaws.{put_whole, put_nothing}
use Rattle.cursor_layout.proofs.cursor.put_cursor.Goals as goal

pub returns-then-bytes-ne-CURSOR_LENGTH : goal.returns-then-bytes-ne-CURSOR_LENGTH
returns-then-bytes-ne-CURSOR_LENGTH c = put_nothing 22 _ _ c.if-bytes-ne-CURSOR_LENGTH.true

pub returns : goal.returns
returns c =
    ap (λ (x : List ℕ). put true x) (cursor_put c.args.cursor _ c.args.bytes.now _ _ _ _ _ c.if-bytes-ne-CURSOR_LENGTH.false c.state_number.ensures
    c.put_1.ensures c.put_1-2.ensures c.put_8.ensures c.put_4.ensures c.put_8-2.ensures)
    ∙ put_whole 22 _ _ c.if-bytes-ne-CURSOR_LENGTH.false
