-- `puts::bytes::Text::put_clock` meets its contract.
-- Assumes nothing.
use mathlib.Core.Path.{refl}
use Rattle.puts.proofs.PutLaws.{put_both}
use Rattle.puts.proofs.bytes.Text.put_clock.Goals as goal

pub returns : goal.returns
returns c = put_both refl c.put_two.ensures (put_both refl c.put_two-2.ensures c.put_two-3.ensures)
