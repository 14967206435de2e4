-- `calendar::utils::days_before_year` meets its contract.
-- Assumes nothing.
use Rattle.calendar.specs.Calendar.{new_year}
use Rattle.calendar.proofs.utils.days_before_year.Goals as goal

pub returns : goal.returns
unfolding new_year
returns c = rw c.saturating_sub-past.ensures
