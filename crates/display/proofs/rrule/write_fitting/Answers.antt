-- `display::rrule::write_fitting` meets its contract.
-- Assumes nothing.
use mathlib.Core.Path.{refl}
use Rattle.rule.specs.Raw.{raw_of}
use Rattle.display.proofs.FitLaws.{room, short, long}
use Rattle.display.proofs.rrule.write_fitting.Goals as goal

pub put_first-needed-requires : goal.put_first-needed-requires
put_first-needed-requires c =
    let fits = c.within_types.ensures in
    room (raw_of c.args.given.now 0) _ c.requires refl fits.interval c.unwrap_or.ensures fits.times

pub put_first-requires : goal.put_first-requires
put_first-requires c =
    let fits = c.within_types.ensures in
    room (raw_of c.args.given.now 0) _ c.requires refl fits.interval c.unwrap_or.ensures fits.times

pub returns-then-text-needed : goal.returns-then-text-needed
returns-then-text-needed c = short _ _ _ _ c.put_first-needed.ensures.stands c.put_first-needed.ensures.needed c.if-text-needed.true

pub returns : goal.returns
returns c =
    long _ _ _ _ c.put_first-needed.ensures.stands c.put_first-needed.ensures.needed _ _ c.if-text-needed.false c.put_first.ensures.stands
    c.put_first.ensures.needed
