-- `validator::validate_rrule::marked_pairs` meets its contract.
-- Assumes nothing.
use Rattle.std.proofs.Common.{◌∙◌}
use Rattle.rule.proofs.SetLaws.{marks_are}
use Rattle.validator.proofs.validate_rrule.marked_pairs.Goals as goal

pub returns : goal.returns
returns c = c.mark_pairs.ensures ∙ marks_are 749 _
