-- `moves::counter_date::next_period` meets its contract.
-- Assumes nothing.
use mathlib.Core.Path.{ap, ◌∙◌}
use native.Mathlib.Omega.{arith}
use Rattle.periods.specs.Counters.{below}
use Rattle.moves.proofs.Ahead.{ahead_is}
use Rattle.moves.proofs.counter_date.next_period.Goals as goal

pub returns : goal.returns
returns c =
    let a = c.args in
    c.in_range.ensures ∙ ap (below a.limit) (ahead_is 1 a.step a.counter _ 1 (omega arith) (omega arith) (omega arith))
