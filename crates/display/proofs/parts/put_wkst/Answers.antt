-- `display::parts::put_wkst` meets its contract.
-- Assumes nothing.
use Rattle.puts.proofs.PutLaws.{put_none, put_of, first_room, next_room, put_both}
use Rattle.display.proofs.PartLaws.{wkst_here, wkst_gone}
use Rattle.display.proofs.parts.put_wkst.Goals as goal

pub returns-then-wkst-eq0 : goal.returns-then-wkst-eq0
returns-then-wkst-eq0 c = put_of (wkst_gone _ c.if-wkst-eq0.true) (put_none _)

pub put_word-requires : goal.put_word-requires
put_word-requires c = first_room _ (wkst_here c.args.wkst c.if-wkst-eq0.false) c.requires

pub put_weekday-requires : goal.put_weekday-requires
put_weekday-requires c = next_room (wkst_here c.args.wkst c.if-wkst-eq0.false) c.requires c.put_word.ensures

pub returns : goal.returns
returns c = put_both (wkst_here c.args.wkst c.if-wkst-eq0.false) c.put_word.ensures c.put_weekday.ensures
