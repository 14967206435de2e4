-- `listing::walking::walk_period` meets its contract.
-- Assumes nothing.
use mathlib.Core.Path.{◌∙◌}
use Rattle.listing.proofs.WalkLaws.{by_places, by_days, walked_none}
use Rattle.listing.proofs.walking.walk_period.Goals as goal

pub returns-then-kept-eq0 : goal.returns-then-kept-eq0
returns-then-kept-eq0 c = let a = c.args in walked_none a.plan.now.bounds a.held _ a.opened.now.period.kept a.buffer.now c.if-kept-eq0.true

pub walk_all-requires : goal.walk_all-requires
walk_all-requires c = (c.requires.0.framed, c.requires.0.timely, c.requires.1)

pub returns-then-not-plan : goal.returns-then-not-plan
returns-then-not-plan c =
    let a = c.args in
    let p = a.opened.now in
    c.walk_all.ensures
    ∙ by_days a.plan.now.shape.positioned p.period.frame a.plan.now.bounds a.held p.period.kept p.days a.plan.now.lists p.places a.buffer.now
    c.requires.0.framed c.requires.1 c.if-not-plan.true (c.requires.0.kept_all c.if-not-plan.true)

pub returns : goal.returns
returns c =
    let a = c.args in
    let p = a.opened.now in
    c.walk_places.ensures.walked
    ∙ by_places a.plan.now.shape.positioned p.period.frame a.plan.now.bounds a.held p.period.kept p.days a.plan.now.lists p.places a.buffer.now
    c.requires.0.framed c.requires.1 c.if-not-plan.false (c.requires.0.kept_high c.if-not-plan.false)
