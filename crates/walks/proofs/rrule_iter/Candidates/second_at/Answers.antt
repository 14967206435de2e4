-- `walks::rrule_iter::Candidates::second_at` meets its contract.
-- Assumes nothing.
use mathlib.Core.Path.{◌∙◌}
use Prim.Native.Nat.{◌%◌}
use Rattle.walks.specs.Walks.{in_year}
use Rattle.walks.proofs.SecondLaws.{second_by}
use Rattle.walks.proofs.rrule_iter.Candidates.second_at.Goals as goal

pub returns : goal.returns
returns c =
    let a = c.args.self.now in
    c.second_on.ensures
    ∙ second_by (in_year a.frame (a.frame.first % 4294967296)) a.days.now a.lists.now c.args.number _ c.quotient-day.ensures
