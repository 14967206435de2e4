-- `display::rrule::put_rule` meets its contract.
-- Assumes nothing.
use mathlib.Core.Path.{refl}
use Rattle.puts.proofs.PutLaws.{first_room, next_room, put_both}
use Rattle.rule.specs.Raw.{raw_of}
use Rattle.display.proofs.TextLaws.{whole}
use Rattle.display.proofs.rrule.put_rule.Goals as goal

pub put_head-requires : goal.put_head-requires
put_head-requires c = (c.requires.0, first_room _ (whole (raw_of c.args.given.now 0)) c.requires.1)

pub put_day_lists-requires : goal.put_day_lists-requires
put_day_lists-requires c = first_room _ refl (next_room (whole (raw_of c.args.given.now 0)) c.requires.1 c.put_head.ensures)

pub put_time_lists-requires : goal.put_time_lists-requires
put_time_lists-requires c = next_room refl (next_room (whole (raw_of c.args.given.now 0)) c.requires.1 c.put_head.ensures) c.put_day_lists.ensures

pub returns : goal.returns
returns c = put_both (whole (raw_of c.args.given.now 0)) c.put_head.ensures (put_both refl c.put_day_lists.ensures c.put_time_lists.ensures)
