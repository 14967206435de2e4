-- `days::iterinfo::has_every` meets its contract.
-- Assumes nothing.
use Rattle.days.proofs.Blanks.{every_by_fours}
use Rattle.days.proofs.iterinfo.has_every.Goals as goal

pub returns : goal.returns
returns c =
    let a = c.args in
    rw (c.some_of_four-2.ensures, c.some_of_four.ensures) (every_by_fours a.byday.now)
