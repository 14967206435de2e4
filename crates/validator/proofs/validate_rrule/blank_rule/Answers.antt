-- `validator::validate_rrule::blank_rule` meets its contract.
-- Assumes nothing.
use mathlib.Core.Path.{refl}
use Rattle.rule.specs.Filling.{blank}
use Rattle.validator.proofs.validate_rrule.blank_rule.Goals as goal

pub returns : goal.returns
unfolding blank
returns c = refl
