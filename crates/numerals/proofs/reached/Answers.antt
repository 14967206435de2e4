-- `numerals::reached` meets its contract.
-- Assumes nothing.
use Rattle.numerals.proofs.reached.Goals as goal

pub returns-then-whole : goal.returns-then-whole
returns-then-whole c = rw c.if-whole.true

pub returns : goal.returns
returns c = rw c.if-whole.false
