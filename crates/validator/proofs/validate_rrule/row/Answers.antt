-- `validator::validate_rrule::row` meets its contract.
-- Assumes nothing.
use Rattle.rule.specs.Entries.{or_refused}
use Rattle.validator.proofs.validate_rrule.row.Goals as goal

pub returns-then-applies : goal.returns-then-applies
unfolding or_refused
returns-then-applies c = rw c.if-applies.true

pub returns-else-applies : goal.returns-else-applies
unfolding or_refused
returns-else-applies c = rw c.if-applies.false
