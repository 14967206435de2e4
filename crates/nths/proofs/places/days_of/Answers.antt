-- `nths::places::days_of` meets its contract.
-- Assumes nothing.
use mathlib.Core.Path.{sym, ap}
use Rattle.calendar.specs.Calendar.{days_of}
use Rattle.nths.proofs.places.days_of.Goals as goal

pub returns-then-long : goal.returns-then-long
returns-then-long c = sym (ap days_of c.if-long.true)

pub returns-else-long : goal.returns-else-long
returns-else-long c = sym (ap days_of c.if-long.false)
