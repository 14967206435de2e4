-- `record_layout::record::record_in` meets its contract.
-- Assumes nothing.
use mathlib.Core.Path.{refl, sym, ap, ◌∙◌}
use Rattle.edge.specs.Layout.{record_in}
use Rattle.edge.proofs.LayoutLaws.{record_read}
use Rattle.cursor_layout.proofs.LengthLaws.{of_length_lem, of_other_length}
use Rattle.record_layout.proofs.OptionLaws.{option_is}
use Rattle.record_layout.proofs.record.record_in.Goals as goal

pub returns-then-bytes-ne-RECORD_LENGTH : goal.returns-then-bytes-ne-RECORD_LENGTH
returns-then-bytes-ne-RECORD_LENGTH c = c.record_of_none.ensures ∙ ap record_in (sym (of_other_length 2564 _ c.if-bytes-ne-RECORD_LENGTH.true))

pub returns : goal.returns
returns c =
    record_read c.args.bytes.now _ _ _ _ _ _ _ _ _ _ _ _ _ _ _ _ _ c.frequency_of.ensures c.read_2.ensures.0
    c.read_4.ensures.0 (c.then_some.ensures ∙ option_is _ _) c.read_8.ensures (c.then_some-2.ensures ∙ option_is _ _)
    refl c.read_8-2.ensures
    c.flags.ensures c.flags-2.ensures c.flags-3.ensures c.flags-4.ensures c.flags-5.ensures
    c.flags-6.ensures c.flags-7.ensures c.flags-8.ensures c.flags-9.ensures
    ∙ ap record_in (sym (of_length_lem 2564 c.args.bytes.now c.if-bytes-ne-RECORD_LENGTH.false))
