-- `days::places::next_weekday` meets its contract.
-- Assumes nothing.
use native.Mathlib.Omega.{arith}
use Rattle.days.proofs.places.next_weekday.Goals as goal

pub returns-then-weekday-lt6 : goal.returns-then-weekday-lt6
returns-then-weekday-lt6 c = omega (arith, c.if-weekday-lt6.true)

pub returns-else-weekday-lt6 : goal.returns-else-weekday-lt6
returns-else-weekday-lt6 c = omega (arith, c.if-weekday-lt6.false, c.requires)
