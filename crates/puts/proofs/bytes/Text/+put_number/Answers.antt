-- `puts::bytes::Text::put_number` meets its contract: a number loses its last digit at each call.
-- Assumes nothing.
use Rattle.std.proofs.Common.{rules}
use Prim.Native.Nat.{◌+◌, ◌%◌}
use mathlib.Core.Path.{refl, sym}
use Rattle.puts.proofs.PutLaws.{room_of, put_of, first_room, next_room, put_both}
use Rattle.puts.proofs.DigitLaws.{one_digit, last_digit}
use Rattle.puts.proofs.bytes.Text.+put_number.Goals as goal

pub put_byte-requires : goal.put_byte-requires
put_byte-requires t c = room_of (sym (one_digit c.args.number _ c.if-number-lt10.true refl)) c.requires

pub returns-then-number-lt10 : goal.returns-then-number-lt10
returns-then-number-lt10 t c = put_of (one_digit c.args.number _ c.if-number-lt10.true refl) c.put_byte.ensures

pub put_number-requires : goal.put_number-requires
put_number-requires t c =
    let n = c.args.number in
    (search rules, first_room _ (last_digit n _ (48 + n % 10) c.if-number-lt10.false (search rules) refl refl) c.requires)

pub put_byte-requires-else-number-lt10 : goal.put_byte-requires-else-number-lt10
put_byte-requires-else-number-lt10 t c =
    next_room (last_digit c.args.number _ _ c.if-number-lt10.false (search rules) refl refl) c.requires c.put_number.ensures

pub returns-else-number-lt10 : goal.returns-else-number-lt10
returns-else-number-lt10 t c =
    put_both (last_digit c.args.number _ _ c.if-number-lt10.false (search rules) refl refl) c.put_number.ensures c.put_byte-else-number-lt10.ensures
