-- `puts::bytes::Text::put_four` meets its contract.
-- Assumes nothing.
use mathlib.Core.Path.{refl}
use Rattle.puts.proofs.PutLaws.{first_room, next_room, put_both}
use Rattle.puts.proofs.DigitLaws.{four_digits}
use Rattle.puts.proofs.bytes.Text.put_four.Goals as goal

pub put_two-requires : goal.put_two-requires
put_two-requires c = first_room _ (four_digits c.args.number _ c.args.number refl refl) c.requires

pub put_two-requires-2 : goal.put_two-requires-2
put_two-requires-2 c = next_room (four_digits c.args.number _ _ refl refl) c.requires c.put_two.ensures

pub returns : goal.returns
returns c = put_both (four_digits c.args.number _ _ refl refl) c.put_two.ensures c.put_two-2.ensures
