-- `moves::counter_date::counter_ahead` meets its contract.
-- Assumes nothing.
use native.Mathlib.Omega.{arith}
use Rattle.moves.proofs.Ahead.{ahead_at}
use Rattle.moves.proofs.counter_date.counter_ahead.Goals as goal

pub returns : goal.returns
returns c = ahead_at _ _ (omega arith) _ _ _ (omega arith) (omega arith) c.requires.perday_bound.3
