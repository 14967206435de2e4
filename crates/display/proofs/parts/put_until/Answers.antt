-- `display::parts::put_until` meets its contract.
-- Assumes nothing.
use Rattle.puts.proofs.PutLaws.{put_none, put_of, first_room, next_room, put_both}
use Rattle.display.proofs.PartLaws.{until_here, until_gone, until_low}
use Rattle.display.proofs.parts.put_until.Goals as goal

pub put_word-requires : goal.put_word-requires
put_word-requires c = first_room _ (until_here _ _ c.in-Some.is) c.requires.1

pub put_moment-requires : goal.put_moment-requires
put_moment-requires c = (
  until_low _ _ c.in-Some.is c.requires.0,
  next_room (until_here _ _ c.in-Some.is) c.requires.1 c.put_word.ensures,
)

pub returns-in-Some : goal.returns-in-Some
returns-in-Some c = put_both (until_here _ _ c.in-Some.is) c.put_word.ensures c.put_moment.ensures

pub returns-in_default : goal.returns-in_default
returns-in_default c = put_of (until_gone _ c.in_default.is) (put_none _)
