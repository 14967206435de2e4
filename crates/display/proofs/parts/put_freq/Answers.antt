-- `display::parts::put_freq` meets its contract.
-- Assumes nothing.
use Rattle.puts.proofs.PutLaws.{first_room, next_room, put_both}
use Rattle.display.proofs.PartLaws.{freq_part_lem}
use Rattle.display.proofs.parts.put_freq.Goals as goal

pub put_word-requires : goal.put_word-requires
put_word-requires c = first_room _ (freq_part_lem c.args.freq) c.requires

pub put_frequency-requires : goal.put_frequency-requires
put_frequency-requires c = next_room (freq_part_lem c.args.freq) c.requires c.put_word.ensures

pub returns : goal.returns
returns c = put_both (freq_part_lem c.args.freq) c.put_word.ensures c.put_frequency.ensures
