-- `display::parts::put_count` meets its contract.
-- Assumes nothing.
use Rattle.puts.proofs.PutLaws.{put_none, put_of, first_room, next_room, put_both}
use Rattle.display.proofs.PartLaws.{count_here, count_gone}
use Rattle.display.proofs.parts.put_count.Goals as goal

pub put_word-requires : goal.put_word-requires
put_word-requires c = first_room _ (count_here _ _ c.in-Some.is) c.requires

pub put_number-requires : goal.put_number-requires
put_number-requires c = next_room (count_here _ _ c.in-Some.is) c.requires c.put_word.ensures

pub returns-in-Some : goal.returns-in-Some
returns-in-Some c = put_both (count_here _ _ c.in-Some.is) c.put_word.ensures c.put_number.ensures

pub returns-in_default : goal.returns-in_default
returns-in_default c = put_of (count_gone _ c.in_default.is) (put_none _)
