-- `display::parts::put_more` meets its contract: what is left to put completes the entries.
-- Assumes nothing.
use Rattle.std.proofs.Common.{rules}
use mathlib.Core.Path.{◌≡◌, refl}
use lib.ListN.{get_or}
use lib.IntN.{pos}
use mir.Syntax.{w16}
use mir.Val.{to_z, of_z}
use Rattle.puts.proofs.PutLaws.{first_room, next_room, left_all, left_room, left_next, left_none}
use Rattle.display.proofs.PartLaws.{entry_next, entry_none}
use Rattle.display.proofs.parts.put_more.Goals as goal

pub loop-entry-init : goal.loop-entry-init
loop-entry-init c = left_all _ _

pub put_byte-requires : goal.put_byte-requires
put_byte-requires c =
    first_room _ (entry_next c.args.entries.now c.loop-entry.entry-index _ c.loop-entry-test.true refl) (left_room c.loop-entry.invariant c.requires)

pub put_signed-requires : goal.put_signed-requires
put_signed-requires c =
    let v = get_or c.args.entries.now c.loop-entry.entry-index (pos 0) in
    let same : to_z w16 (of_z w16 v) ≡ v = search rules in
    first_room _ refl (next_room (entry_next _ _ _ c.loop-entry-test.true same) (left_room c.loop-entry.invariant c.requires) c.put_byte.ensures)

pub loop-entry-preserved : goal.loop-entry-preserved
loop-entry-preserved c =
    let v = get_or c.args.entries.now c.loop-entry.entry-index (pos 0) in
    let same : to_z w16 (of_z w16 v) ≡ v = search rules in
    left_next (left_next c.loop-entry.invariant _ (entry_next _ _ _ c.loop-entry-test.true same) c.put_byte.ensures) _ refl c.put_signed.ensures

pub returns : goal.returns
returns c = left_none c.loop-entry.invariant (entry_none _ _ c.loop-entry-test.false)
