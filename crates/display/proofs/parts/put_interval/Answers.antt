-- `display::parts::put_interval` meets its contract.
-- Assumes nothing.
use Rattle.puts.proofs.PutLaws.{put_none, put_of, first_room, next_room, put_both}
use Rattle.display.proofs.PartLaws.{interval_here, interval_gone}
use Rattle.display.proofs.parts.put_interval.Goals as goal

pub returns-then-interval-eq1 : goal.returns-then-interval-eq1
returns-then-interval-eq1 c = put_of (interval_gone _ c.if-interval-eq1.true) (put_none _)

pub put_word-requires : goal.put_word-requires
put_word-requires c = first_room _ (interval_here c.args.interval c.if-interval-eq1.false) c.requires

pub put_number-requires : goal.put_number-requires
put_number-requires c = next_room (interval_here c.args.interval c.if-interval-eq1.false) c.requires c.put_word.ensures

pub returns : goal.returns
returns c = put_both (interval_here c.args.interval c.if-interval-eq1.false) c.put_word.ensures c.put_number.ensures
