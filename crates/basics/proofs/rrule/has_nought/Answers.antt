-- `basics::rrule::has_nought` meets its contract.
-- Assumes nothing.
use mathlib.Core.Path.{ap, ◌∙◌}
use mathlib.Core.Bool.{Bool, ◌||◌}
use lib.Dec.{eqb}
use Rattle.rule.proofs.FreshLaws.{reached_at_once}
use Rattle.basics.proofs.rrule.has_nought.Goals as goal

pub returns : goal.returns
returns c =
    let a = c.args in
    ap (λ (b : Bool). eqb a.interval 0 || b) (c.is_nought.ensures ∙ reached_at_once a.count)
