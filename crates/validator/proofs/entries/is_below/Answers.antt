-- `validator::entries::is_below` meets its contract.
-- Assumes nothing.
use Rattle.std.proofs.Common.{◌∙◌}
use Rattle.validator.proofs.ListLaws.{pair_less, same_value}
use Rattle.validator.proofs.entries.is_below.Goals as goal

pub returns : goal.returns
returns c = c.lt.ensures ∙ pair_less (same_value _ c.ranges.n) (same_value _ c.ranges.w) (same_value _ c.ranges.m) (same_value _ c.ranges.v)
