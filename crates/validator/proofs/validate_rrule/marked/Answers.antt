-- `validator::validate_rrule::marked` meets its contract.
-- Assumes nothing.
use Rattle.std.proofs.Common.{◌∙◌}
use Rattle.rule.proofs.SetLaws.{marks_are}
use Rattle.validator.proofs.validate_rrule.marked.Goals as goal

pub returns : goal.returns
returns g c = c.mark_list.ensures ∙ marks_are _ _
