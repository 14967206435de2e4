-- `record_layout::record::is_record_bytes` meets its contract.
-- Assumes nothing.
use Rattle.std.proofs.Common.{◌∙◌, ap, take_all, arith, length-drop}
use Rattle.edge.specs.Bytes.{are_flags}
use Rattle.edge.proofs.LayoutLaws.{record_length_lem, record_judged}
use Rattle.record_layout.proofs.record.is_record_bytes.Goals as goal

pub returns-then-bytes-ne-RECORD_LENGTH : goal.returns-then-bytes-ne-RECORD_LENGTH
returns-then-bytes-ne-RECORD_LENGTH c = record_length_lem c.args.bytes.now c.if-bytes-ne-RECORD_LENGTH.true

pub returns : goal.returns
returns c =
    record_judged c.args.bytes.now _ _ _ _ _ c.if-bytes-ne-RECORD_LENGTH.false
    c.read_4-count.ensures.0 c.read_8-until.ensures
    c.is_tagged.ensures c.is_tagged-2.ensures (c.are_flags.ensures ∙ ap are_flags (take_all _ _ (omega (arith, length-drop 27 c.args.bytes.now))))
