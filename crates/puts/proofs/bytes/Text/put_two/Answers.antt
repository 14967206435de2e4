-- `puts::bytes::Text::put_two` meets its contract.
-- Assumes nothing.
use mathlib.Core.Path.{refl, sym}
use Rattle.puts.proofs.PutLaws.{room_of, put_of}
use Rattle.puts.proofs.DigitLaws.{two_digits}
use Rattle.puts.proofs.bytes.Text.put_two.Goals as goal

pub put_pair-requires : goal.put_pair-requires
put_pair-requires c = room_of (sym (two_digits c.args.number _ _ refl refl)) c.requires

pub returns : goal.returns
returns c = put_of (two_digits c.args.number _ _ refl refl) c.put_pair.ensures
