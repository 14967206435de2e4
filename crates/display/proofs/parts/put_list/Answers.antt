-- `display::parts::put_list` meets its contract.
-- Assumes nothing.
use Rattle.std.proofs.Common.{rules, ◌≡◌}
use mathlib.Core.Path.{refl}
use lib.ListN.{get_or}
use lib.IntN.{pos}
use mir.Syntax.{w16}
use mir.Val.{to_z, of_z}
use Rattle.puts.proofs.PutLaws.{put_both}
use Rattle.display.proofs.PartLaws.{list_here}
use Rattle.display.proofs.parts.put_list.Goals as goal

pub returns-in-len1-up : goal.returns-in-len1-up
returns-in-len1-up c =
    let l = c.args.list.now in
    let first : to_z w16 (of_z w16 (get_or l 0 (pos 0))) ≡ get_or l 0 (pos 0) = search rules in
    put_both (list_here c.args.name.now l _ c.in-len1-up.len_at_least first) c.put_word.ensures (put_both refl c.put_signed.ensures c.put_more.ensures)
