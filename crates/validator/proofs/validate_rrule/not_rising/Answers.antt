-- `validator::validate_rrule::not_rising` meets its contract.
-- Assumes nothing.
use Rattle.rule.specs.Refusals.{not_rising}
use Rattle.validator.proofs.validate_rrule.not_rising.Goals as goal

pub returns : goal.returns
unfolding not_rising
returns c = rw (c.is_rising-8.ensures, c.is_rising-7.ensures, c.is_rising-6.ensures, c.is_rising-5.ensures, c.are_rising.ensures, c.is_rising-4.ensures, c.is_rising-3.ensures, c.is_rising-2.ensures, c.is_rising.ensures)
