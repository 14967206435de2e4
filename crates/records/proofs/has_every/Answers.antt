-- `records::has_every` meets its contract.
-- Assumes nothing.
use Rattle.rule.specs.Records.{has_every}
use Rattle.records.proofs.has_every.Goals as goal

pub returns : goal.returns
unfolding has_every
returns c = rw c.is_empty.ensures
