-- `basics::rrule::is_misplaced` meets its contract. Its own file, so that a wrong test is refused here, where the two differ.
-- Assumes nothing.
use mathlib.Core.Path.{refl}
use Rattle.basics.proofs.rrule.is_misplaced.Goals as goal

pub returns : goal.returns
returns c = refl
