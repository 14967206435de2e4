-- `puts::bytes::Text::put_moment` meets its contract.
-- Assumes nothing.
use Prim.Native.Nat.{◌+◌}
use mathlib.Core.Path.{refl}
use mathlib.Core.List.{[], ◌∷◌, ◌++◌}
use Rattle.recur.specs.Writing.{clock_text}
use Rattle.puts.proofs.PutLaws.{first_room, next_room, put_both}
use Rattle.puts.proofs.DigitLaws.{moment_parts}
use Rattle.puts.proofs.bytes.Text.put_moment.Goals as goal

pub put_date-requires : goal.put_date-requires
put_date-requires c = first_room _ (moment_parts _ _ refl) c.requires.1

pub put_byte-requires : goal.put_byte-requires
put_byte-requires c =
    first_room (clock_text (c.args.instant + 62135596800) ++ (90 ∷ [])) refl (next_room (moment_parts _ _ refl) c.requires.1 c.put_date.ensures)

pub put_clock-requires : goal.put_clock-requires
put_clock-requires c = first_room _ refl (next_room refl (next_room (moment_parts _ _ refl) c.requires.1 c.put_date.ensures) c.put_byte.ensures)

pub put_byte-requires-2 : goal.put_byte-requires-2
put_byte-requires-2 c =
    next_room refl (next_room refl (next_room (moment_parts _ _ refl) c.requires.1 c.put_date.ensures) c.put_byte.ensures) c.put_clock.ensures

pub returns : goal.returns
returns c =
    put_both (moment_parts _ _ refl) c.put_date.ensures
    (put_both refl c.put_byte.ensures (put_both refl c.put_clock.ensures c.put_byte-2.ensures))
