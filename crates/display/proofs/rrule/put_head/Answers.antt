-- `display::rrule::put_head` meets its contract.
-- Assumes nothing.
use mathlib.Core.Path.{refl}
use Rattle.puts.proofs.PutLaws.{put_both}
use Rattle.display.proofs.rrule.put_head.Goals as goal

pub returns : goal.returns
returns c =
    put_both refl c.put_freq.ensures
    (put_both refl c.put_interval.ensures (put_both refl c.put_count.ensures (put_both refl c.put_until.ensures c.put_wkst.ensures)))
