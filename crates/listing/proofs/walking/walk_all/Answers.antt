-- `listing::walking::walk_all` meets its contract.
-- Assumes nothing.
use mathlib.Core.Path.{◌∙◌}
use Rattle.listing.proofs.WalkLaws.{passed_same}
use Rattle.listing.proofs.walking.walk_all.Goals as goal

pub returns : goal.returns
returns c =
    let a = c.args in
    let ps = a.candidates.now in
    c.walk_days.ensures.walked
    ∙ passed_same ps.frame a.bounds a.held ps.days.now ps.lists.now a.buffer.now c.pass_days-passed.result c.requires.0 c.requires.1 c.requires.2
    c.pass_days-passed.ensures
