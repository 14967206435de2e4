-- `display::rrule::put_day_lists` meets its contract.
-- Assumes nothing.
use mathlib.Core.Path.{refl}
use Rattle.puts.proofs.PutLaws.{put_both}
use Rattle.display.proofs.rrule.put_day_lists.Goals as goal

pub returns : goal.returns
returns c =
    put_both refl c.put_list.ensures
    (put_both refl c.put_list-2.ensures (put_both refl c.put_list-3.ensures (put_both refl c.put_list-4.ensures c.put_days.ensures)))
