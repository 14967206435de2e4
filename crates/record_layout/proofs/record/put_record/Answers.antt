-- `record_layout::record::put_record` meets its contract.
-- Assumes nothing.
use mathlib.Core.Path.{ap, ◌∙◌}
use mathlib.Core.List.{List}
use mathlib.Core.Bool.{true}
use Prim.Native.Nat.{ℕ}
use Rattle.edge.proofs.LayoutLaws.{record_put}
use Rattle.cursor_layout.specs.Lengths.{put}
use Rattle.cursor_layout.proofs.LengthLaws.{put_whole, put_nothing}
use Rattle.record_layout.proofs.record.put_record.Goals as goal

pub returns-then-bytes-ne-RECORD_LENGTH : goal.returns-then-bytes-ne-RECORD_LENGTH
returns-then-bytes-ne-RECORD_LENGTH c = put_nothing 2564 _ _ c.if-bytes-ne-RECORD_LENGTH.true

pub returns : goal.returns
returns c =
    ap (λ (x : List ℕ). put true x) (record_put c.args.rule.now c.args.bytes.now _ _ _ _ c.if-bytes-ne-RECORD_LENGTH.false c.put_days.ensures.1
    c.put_times.ensures.1 c.put_1.ensures c.put_head.ensures c.put_days.ensures.0 c.put_times.ensures.0)
    ∙ put_whole 2564 _ _ c.if-bytes-ne-RECORD_LENGTH.false
