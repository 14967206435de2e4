-- `validator::validate_rrule::entry_out` meets its contract.
-- Assumes nothing.
use Rattle.rule.specs.Refusals.{entry_out}
use Rattle.validator.proofs.validate_rrule.entry_out.Goals as goal

pub returns : goal.returns
unfolding entry_out
returns c = rw (c.has_strays-10.ensures, c.has_strays-9.ensures, c.has_strays-8.ensures, c.has_strays-7.ensures, c.has_strays-6.ensures, c.has_strays-5.ensures, c.has_strays-4.ensures, c.has_strays-3.ensures, c.has_strays-2.ensures, c.has_strays.ensures)
