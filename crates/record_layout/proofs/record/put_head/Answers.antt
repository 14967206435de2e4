-- `record_layout::record::put_head` meets its contract.
-- Assumes nothing.
use Rattle.std.proofs.Common.{◌∙◌, ap}
use mir.Val.{bool_byte}
use Rattle.edge.proofs.LayoutLaws.{head_put}
use Rattle.record_layout.proofs.OptionLaws.{tag_is, number_is}
use Rattle.record_layout.proofs.record.put_head.Goals as goal

pub returns : goal.returns
returns c =
    head_put _ _ _ _ _ _ _ _ _ _ _ _ _ _ _ _ _ _ _ _ c.frequency_number.ensures
    (ap bool_byte c.is_some.ensures ∙ tag_is c.args.rule.now.count) (c.unwrap_or.ensures ∙ number_is c.args.rule.now.count)
    (ap bool_byte c.is_some-2.ensures ∙ tag_is c.args.rule.now.until) (c.unwrap_or-2.ensures ∙ number_is c.args.rule.now.until)
    c.put_1.ensures c.put_2.ensures c.put_1-2.ensures c.put_4.ensures c.put_1-3.ensures
    c.put_8.ensures c.put_1-4.ensures c.put_8-2.ensures
