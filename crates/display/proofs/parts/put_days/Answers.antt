-- `display::parts::put_days` meets its contract.
-- Assumes nothing.
use Rattle.std.proofs.Common.{rules, ◌≡◌}
use mathlib.Core.Path.{refl}
use lib.ListN.{get_or}
use lib.IntN.{pos}
use mir.Syntax.{w16}
use mir.Val.{to_z, of_z}
use Rattle.puts.proofs.PutLaws.{put_none, put_of, first_room, next_room, put_both}
use Rattle.display.proofs.DayLaws.{no_days_lem, no_weekdays, days_here}
use Rattle.display.proofs.parts.put_days.Goals as goal

pub returns-then-ns-lt1 : goal.returns-then-ns-lt1
returns-then-ns-lt1 c = put_of (no_days_lem c.args.ns.now c.args.ws.now (search rules)) (put_none _)

pub returns-then-this-lt1 : goal.returns-then-this-lt1
returns-then-this-lt1 c = put_of (no_weekdays c.args.ns.now c.args.ws.now (search rules)) (put_none _)

pub put_word-requires : goal.put_word-requires
put_word-requires c = first_room _ (days_here c.args.ns.now c.args.ws.now _ _ (search rules) (search rules) refl refl) c.requires

pub put_day-requires : goal.put_day-requires
put_day-requires c =
    let n : to_z w16 (of_z w16 (get_or c.args.ns.now 0 (pos 0))) ≡ get_or c.args.ns.now 0 (pos 0) = search rules in
    let w : to_z w16 (of_z w16 (get_or c.args.ws.now 0 (pos 0))) ≡ get_or c.args.ws.now 0 (pos 0) = search rules in
    first_room _ refl (next_room (days_here _ _ _ _ (search rules) (search rules) n w) c.requires c.put_word.ensures)

pub put_more_days-requires : goal.put_more_days-requires
put_more_days-requires c =
    let n : to_z w16 (of_z w16 (get_or c.args.ns.now 0 (pos 0))) ≡ get_or c.args.ns.now 0 (pos 0) = search rules in
    let w : to_z w16 (of_z w16 (get_or c.args.ws.now 0 (pos 0))) ≡ get_or c.args.ws.now 0 (pos 0) = search rules in
    next_room refl (next_room (days_here c.args.ns.now c.args.ws.now _ _ (search rules) (search rules) n w) c.requires c.put_word.ensures) c.put_day.ensures

pub returns-in-len1-up-len1-up : goal.returns-in-len1-up-len1-up
returns-in-len1-up-len1-up c =
    let n : to_z w16 (of_z w16 (get_or c.args.ns.now 0 (pos 0))) ≡ get_or c.args.ns.now 0 (pos 0) = search rules in
    let w : to_z w16 (of_z w16 (get_or c.args.ws.now 0 (pos 0))) ≡ get_or c.args.ws.now 0 (pos 0) = search rules in
    put_both (days_here c.args.ns.now c.args.ws.now _ _ (search rules) (search rules) n w) c.put_word.ensures (put_both refl c.put_day.ensures c.put_more_days.ensures)
