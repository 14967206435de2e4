-- `puts::bytes::Text::put_date` meets its contract.
-- Assumes nothing.
use mathlib.Core.Path.{refl, ap}
use Rattle.recur.specs.Writing.{date_text}
use Rattle.puts.proofs.PutLaws.{put_both}
use Rattle.puts.proofs.bytes.Text.put_date.Goals as goal

pub returns : goal.returns
returns c =
    put_both (ap date_text c.date_from_ordinal-date.ensures) c.put_four.ensures (put_both refl c.put_two.ensures c.put_two-2.ensures)
