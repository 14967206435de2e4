-- `validator::entries::is_outside` meets its contract.
-- Assumes nothing.
use Rattle.std.proofs.Common.{◌∙◌, ap}
use Rattle.rule.specs.Lists.{slot_of}
use Rattle.rule.specs.Refusals.{is_outside}
use Rattle.validator.proofs.ListLaws.{outside_is, same_value}
use Rattle.validator.proofs.entries.is_outside.Goals as goal

pub returns : goal.returns
returns c = outside_is c.slot_of.result _ c.is_none.ensures ∙ ap is_outside (c.slot_of.ensures ∙ ap (slot_of c.args.range) (same_value _ c.ranges.value))
