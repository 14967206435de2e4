-- `basics::rrule::cursor_in` meets its contract. Its own file, so that a wrong cursor is refused here, where the two differ.
-- Assumes nothing.
use mathlib.Core.Path.{refl}
use Rattle.basics.proofs.rrule.cursor_in.Goals as goal

pub returns : goal.returns
returns c = refl
