-- `parsed::check_outline` meets its contract: each list is cut to its count.
-- Assumes nothing.
use Rattle.parsed.specs.Outlined.{rule_with}
use Rattle.parsed.proofs.check_outline.Goals as goal

pub returns : goal.returns
unfolding rule_with
returns c = c.check.ensures
