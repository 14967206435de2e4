-- `stretches::counter_date::days_of` meets its contract.
-- Assumes nothing.
use Rattle.std.proofs.Common.{rules}
use Rattle.stretches.specs.Stretches.{days_in}
use Rattle.stretches.proofs.counter_date.days_of.Goals as goal

pub returns-in-Daily : goal.returns-in-Daily
unfolding days_in
returns-in-Daily c = search rules
